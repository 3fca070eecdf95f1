-- What a publisher sends.
-- For `publisher_keeps` and `publisher_sends_its_own`.
-- By cases on what asks for a telegram, and on whether the publisher may send.
use Rattle.std.proofs.Common.{◌≡◌, ℕ, Some, None, Bool, true, false, refl, IsSome, List, Option}
use Rattle.std.specs.Prelude.{◌==◌, ◌&&◌, ◌||◌, is_some}
use Rattle.trdp_head.specs.declared.pd.PdHead.{PdHead}
use Rattle.trdp_filter.specs.declared.globals.Globals.{Globals}
use Rattle.trdp_filter.specs.Counts.{topo_valid}
use Rattle.trdp_filter.specs.Globals.{leads}
use Rattle.trdp_filter.specs.Telegrams.{TelegramModel, PdIs, MdIs}
use Rattle.trdp_pd.specs.declared.object.Fired.TheVariants.{Data}
use Rattle.trdp_pd.specs.declared.object.Taken.TheVariants.{Nothing as NotTaken, Pulled}
use Rattle.trdp_pd.specs.Publishers.{PublisherState, is_answered, is_asked, may_send}
use Rattle.trdp_pd.specs.Publishers.{publisher_firing, publisher_taking}

-- a moment leaves the value
pub value-firing :
    (p : PublisherState) (globals : Globals) → (publisher_firing p globals).object.value ≡ p.value
value-firing p globals = either (may_send p globals) refl
  where
    either :
        (b : Bool) → may_send p globals ≡ b
        → (publisher_firing p globals).object.value ≡ p.value
    either true is = rw is refl
    either false is = rw is refl

-- what a publisher sends has its comId, and is sent for a value that it has
pub sent-com_id :
    (p : PublisherState) (globals : Globals) (head : PdHead)
    → (publisher_firing p globals).fired ≡ Data head → head.com_id ≡ p.terms.com_id
sent-com_id p globals head is = either (may_send p globals) refl is
  where
    either :
        (b : Bool) → may_send p globals ≡ b → (publisher_firing p globals).fired ≡ Data head
        → head.com_id ≡ p.terms.com_id
    either true may is = let h = rw may at is in cc
    either false may is = let h = rw may at is in absurd (cc)

sent-may_send :
    (p : PublisherState) (globals : Globals) (head : PdHead)
    → (publisher_firing p globals).fired ≡ Data head → may_send p globals ≡ true
sent-may_send p globals head is = either (may_send p globals) refl is
  where
    either :
        (b : Bool) → may_send p globals ≡ b → (publisher_firing p globals).fired ≡ Data head
        → may_send p globals ≡ true
    either true may is = may
    either false may is = let h = rw may at is in absurd (cc)

-- a publisher that may send has a value
is_some-may_send :
    (p : PublisherState) (globals : Globals) → may_send p globals ≡ true → IsSome p.value
is_some-may_send p globals may =
    let leads : Bool = p.terms.group == 0 || leads globals.led p.terms.group in
    either p.value leads (topo_valid p.terms.topo globals.topo) may
  where
    either :
        (value : Option (List ℕ)) (group topo : Bool) → (is_some value && group && topo) ≡ true
        → IsSome value
    either (Some bytes) group topo may = refl
    either None group topo may = absurd (cc)

pub sent-value :
    (p : PublisherState) (globals : Globals) (head : PdHead)
    → (publisher_firing p globals).fired ≡ Data head → IsSome p.value
sent-value p globals head is = is_some-may_send p globals (sent-may_send p globals head is)

-- a pull request leaves what is sent, the value and the due moment
record Keeps (p after : PublisherState) : Type 0 where
  terms : after.terms ≡ p.terms
  value : after.value ≡ p.value
  due : after.due ≡ p.due

keeps-taking :
    (p : PublisherState) (telegram : TelegramModel) (globals : Globals) (fits : Bool)
    → Keeps p (publisher_taking p telegram globals fits).object
keeps-taking p (PdIs src dst telegram) globals fits =
    either (is_answered p telegram.head globals) refl
  where
    either :
        (b : Bool) → is_answered p telegram.head globals ≡ b
        → Keeps p (publisher_taking p (PdIs src dst telegram) globals fits).object
    either true is = rw is (record { terms = refl; value = refl; due = refl })
    either false is = rw is (record { terms = refl; value = refl; due = refl })
keeps-taking p (MdIs src dst telegram) globals fits =
    record { terms = refl; value = refl; due = refl }

pub terms-taking :
    (p : PublisherState) (telegram : TelegramModel) (globals : Globals) (fits : Bool)
    → (publisher_taking p telegram globals fits).object.terms ≡ p.terms
terms-taking p telegram globals fits = (keeps-taking p telegram globals fits).terms

pub value-taking :
    (p : PublisherState) (telegram : TelegramModel) (globals : Globals) (fits : Bool)
    → (publisher_taking p telegram globals fits).object.value ≡ p.value
value-taking p telegram globals fits = (keeps-taking p telegram globals fits).value

pub due-taking :
    (p : PublisherState) (telegram : TelegramModel) (globals : Globals) (fits : Bool)
    → (publisher_taking p telegram globals fits).object.due ≡ p.due
due-taking p telegram globals fits = (keeps-taking p telegram globals fits).due

-- a pull reply is sent where the publisher may send, and has its comId
may_send-is_answered :
    (p : PublisherState) (head : PdHead) (globals : Globals) → is_answered p head globals ≡ true
    → may_send p globals ≡ true
unfolding is_answered
may_send-is_answered p head globals is = second (is_asked p head) (may_send p globals) is
  where
    second : (a b : Bool) → (a && b) ≡ true → b ≡ true
    second true b is = is
    second false b is = absurd (cc)

pulled-may_send :
    (p : PublisherState) (telegram : TelegramModel) (globals : Globals) (fits : Bool)
    (head : PdHead) → (publisher_taking p telegram globals fits).taken ≡ Pulled head
    → (may_send p globals ≡ true) × (head.com_id ≡ p.terms.com_id)
pulled-may_send p (PdIs src dst telegram) globals fits head is =
    either (is_answered p telegram.head globals) refl is
  where
    either :
        (b : Bool) → is_answered p telegram.head globals ≡ b
        → (publisher_taking p (PdIs src dst telegram) globals fits).taken ≡ Pulled head
        → (may_send p globals ≡ true) × (head.com_id ≡ p.terms.com_id)
    either true answered is =
        let h = rw answered at is in (may_send-is_answered p telegram.head globals answered, cc)
    either false answered is = let h = rw answered at is in absurd (cc)
pulled-may_send p (MdIs src dst telegram) globals fits head is =
    let none : NotTaken ≡ Pulled head = is in absurd (cc)

pub pulled-com_id :
    (p : PublisherState) (telegram : TelegramModel) (globals : Globals) (fits : Bool)
    (head : PdHead) → (publisher_taking p telegram globals fits).taken ≡ Pulled head
    → head.com_id ≡ p.terms.com_id
pulled-com_id p telegram globals fits head is =
    (pulled-may_send p telegram globals fits head is).1

pub pulled-value :
    (p : PublisherState) (telegram : TelegramModel) (globals : Globals) (fits : Bool)
    (head : PdHead) → (publisher_taking p telegram globals fits).taken ≡ Pulled head
    → IsSome p.value
pulled-value p telegram globals fits head is =
    is_some-may_send p globals (pulled-may_send p telegram globals fits head is).0
