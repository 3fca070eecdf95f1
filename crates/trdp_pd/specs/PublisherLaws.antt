-- What is true of every publisher: its proofs for the trait of all objects. They are here because
-- what a trait's implementation names in src/ may be in specs/ alone.
use Rattle.std.proofs.Common.{◌≡◌, ℕ, ◌+◌, ◌-◌, ◌*◌, ◌/◌, ◌<◌, Bool, true, false, refl, arith}
use Rattle.std.specs.Prelude.{◌==◌, nat_le}
use Rattle.std.proofs.lemmas.Bool.Decides.{nat_tests}
use Rattle.std.proofs.Math.Nat.{mod-lt}
use Rattle.std.proofs.lemmas.Nat.{div-add-mod'}
use Rattle.trdp_head.specs.declared.pd.PdHead.{PdHead}
use Rattle.trdp_filter.specs.declared.globals.Globals.{Globals}
use Rattle.trdp_filter.specs.Telegrams.{TelegramModel, PdIs, MdIs}
use Rattle.trdp_pd.specs.declared.object.Taken.TheVariants.{Nothing as NotTaken}
use Rattle.trdp_pd.specs.Due.{has_come_by}
use Rattle.trdp_pd.specs.Publishers.{PublisherState, is_answered, is_asked, may_send, next_due}
use Rattle.trdp_pd.specs.Publishers.{publisher_addressed, publisher_due, publisher_firing}
use Rattle.trdp_pd.specs.Publishers.{publisher_taking}

-- the next due moment is later than now
pub next_due-later :
    (now due cycle : ℕ) → 0 < cycle → now < due + ((now - due) / cycle + 1) * cycle
next_due-later now due cycle some =
    omega (arith, div-add-mod' (now - due) cycle, mod-lt (now - due) some)

pub nat_le-past : (a b : ℕ) → b < a → nat_le a b ≡ false
nat_le-past a b lt = grind (arith, nat_tests)

-- what the firing of a publisher leaves
publisher_firing-due :
    (p : PublisherState) (globals : Globals)
    → (publisher_firing p globals).object.due ≡ next_due p globals.now
publisher_firing-due p globals = either (may_send p globals) refl
  where
    either :
        (b : Bool) → may_send p globals ≡ b
        → (publisher_firing p globals).object.due ≡ next_due p globals.now
    either true is = rw is refl
    either false is = rw is refl

pub terms-firing :
    (p : PublisherState) (globals : Globals) → (publisher_firing p globals).object.terms ≡ p.terms
terms-firing p globals = either (may_send p globals) refl
  where
    either :
        (b : Bool) → may_send p globals ≡ b
        → (publisher_firing p globals).object.terms ≡ p.terms
    either true is = rw is refl
    either false is = rw is refl

-- a publisher that fired isn't due by now
pub publisher_due-firing :
    (p : PublisherState) (globals : Globals)
    → has_come_by globals.now (publisher_due (publisher_firing p globals).object) ≡ false
publisher_due-firing p globals =
    rw (terms-firing p globals, publisher_firing-due p globals) (either (p.terms.cycle == 0) refl)
  where
    either :
        (b : Bool) → (p.terms.cycle == 0) ≡ b
        → has_come_by globals.now (publisher_due (record p { due = next_due p globals.now }))
        ≡ false
    either true is = rw is refl
    either false is =
        let some : 0 < p.terms.cycle = grind (arith, nat_tests) in
        let later = next_due-later globals.now p.due p.terms.cycle some in
        rw is (nat_le-past (next_due p globals.now) globals.now later)

-- a telegram that isn't for a publisher isn't answered
is_answered-unaddressed :
    (p : PublisherState) (head : PdHead) (globals : Globals) → is_asked p head ≡ false
    → is_answered p head globals ≡ false
unfolding is_answered
is_answered-unaddressed p head globals is = rw is refl

-- a telegram that isn't for a publisher changes nothing
pub publisher_taking-unaddressed :
    (p : PublisherState) (telegram : TelegramModel) (globals : Globals) (fits : Bool)
    → publisher_addressed p telegram globals ≡ false
    → publisher_taking p telegram globals fits ≡ record { object = p; taken = NotTaken }
publisher_taking-unaddressed p (PdIs src dst telegram) globals fits is =
    rw (is_answered-unaddressed p telegram.head globals is) refl
publisher_taking-unaddressed p (MdIs src dst telegram) globals fits is = refl

-- a telegram makes no publisher due
pub publisher_due-taking :
    (p : PublisherState) (telegram : TelegramModel) (globals : Globals) (fits : Bool)
    → has_come_by globals.now (publisher_due p) ≡ false
    → has_come_by globals.now (publisher_due (publisher_taking p telegram globals fits).object)
    ≡ false
publisher_due-taking p (PdIs src dst telegram) globals fits not =
    either (is_answered p telegram.head globals) refl
  where
    either :
        (b : Bool) → is_answered p telegram.head globals ≡ b
        → has_come_by
        globals.now
        (publisher_due (publisher_taking p (PdIs src dst telegram) globals fits).object)
        ≡ false
    either true is = rw is not
    either false is = rw is not
publisher_due-taking p (MdIs src dst telegram) globals fits not = not
