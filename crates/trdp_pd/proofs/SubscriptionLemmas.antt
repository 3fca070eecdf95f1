-- What a subscription shows.
-- For `subscription_keeps` and `subscription_shows_what_it_took`.
-- By cases: a telegram is accepted and stored, or leaves the subscription as it was.
use Rattle.std.proofs.Common.{◌≡◌, ◌⊎◌, inl, inr, Bool, true, false, refl, arith}
use Rattle.std.specs.Prelude.{◌&&◌, not}
use Rattle.std.proofs.lemmas.Bool.Decides.{nat_tests}
use Rattle.trdp_base.specs.declared.place.Place.{Place}
use Rattle.trdp_head.specs.declared.pd.PdHead.{PdHead}
use Rattle.trdp_head.specs.declared.pd.PdKind.{PdKind}
use Rattle.trdp_head.specs.declared.pd.PdKind.TheVariants.{Data, PullReply, PullRequest, Error}
use Rattle.trdp_filter.specs.declared.globals.Globals.{Globals}
use Rattle.trdp_filter.specs.PdFilters.{pd_passes}
use Rattle.trdp_filter.specs.Telegrams.{TelegramModel, PdIs, MdIs}
use Rattle.trdp_pd.specs.Subscriptions.{SubscriptionState, HasTaken, carries_value, is_stale}
use Rattle.trdp_pd.specs.Subscriptions.{is_for_subscription, is_accepted_value, subscription_taking}

false-true : false ≡ true → ⊥
false-true is = absurd (cc)

-- a telegram that is for a subscription has its comId
com_id-is_for :
    (s : SubscriptionState) (src dst : Place) (head : PdHead) (globals : Globals)
    → is_for_subscription s src dst head globals ≡ true → head.com_id ≡ s.terms.filter.com_id
unfolding is_for_subscription pd_passes
com_id-is_for s src dst head globals is = grind (arith, nat_tests)

-- a message type that carries a value is that of data or of a pull reply
kind-carries_value :
    (kind : PdKind) → carries_value kind ≡ true → (kind ≡ Data) ⊎ (kind ≡ PullReply)
kind-carries_value Data is = inl refl
kind-carries_value PullReply is = inr refl
kind-carries_value PullRequest is = absurd (false-true is)
kind-carries_value Error is = absurd (false-true is)

-- a telegram that is for a subscription carries a value
kind-is_for :
    (s : SubscriptionState) (src dst : Place) (head : PdHead) (globals : Globals)
    → is_for_subscription s src dst head globals ≡ true → (head.kind ≡ Data)
    ⊎ (head.kind ≡ PullReply)
unfolding is_for_subscription
kind-is_for s src dst head globals is =
    let passes : Bool = pd_passes s.terms.filter src dst head globals.topo in
    kind-carries_value head.kind (first (carries_value head.kind) passes is)
  where
    first : (a b : Bool) → (a && b) ≡ true → a ≡ true
    first true b is = refl
    first false b is = absurd (false-true is)

-- a telegram that is accepted is for the subscription, and fits
is_for-is_accepted :
    (s : SubscriptionState) (src dst : Place) (head : PdHead) (globals : Globals) (fits : Bool)
    → is_accepted_value s src dst head globals fits ≡ true
    → (is_for_subscription s src dst head globals ≡ true) × (fits ≡ true)
unfolding is_accepted_value
is_for-is_accepted s src dst head globals fits is =
    both (is_for_subscription s src dst head globals) fits (not (is_stale s.latest src.ip head)) is
  where
    both : (a b c : Bool) → (a && b && c) ≡ true → (a ≡ true) × (b ≡ true)
    both true true c is = (refl, refl)
    both true false c is = absurd (false-true is)
    both false b c is = absurd (false-true is)

-- a telegram keeps the terms
pub terms-taking :
    (s : SubscriptionState) (telegram : TelegramModel) (globals : Globals) (fits : Bool)
    → (subscription_taking s telegram globals fits).object.terms ≡ s.terms
terms-taking s (PdIs src dst telegram) globals fits =
    either (is_accepted_value s src dst telegram.head globals fits) refl
  where
    either :
        (b : Bool) → is_accepted_value s src dst telegram.head globals fits ≡ b
        → (subscription_taking s (PdIs src dst telegram) globals fits).object.terms ≡ s.terms
    either true is = rw is refl
    either false is = rw is refl
terms-taking s (MdIs src dst telegram) globals fits = refl

-- the subscription is as it was, or accepted the telegram
abbrev pub IsSameOrHasTaken :
    SubscriptionState → TelegramModel → Bool → SubscriptionState → Type 0
IsSameOrHasTaken s telegram fits after = (after ≡ s) ⊎ HasTaken s telegram fits after

-- a telegram leaves the subscription as it was, or is accepted
pub HasTaken-taking :
    (s : SubscriptionState) (telegram : TelegramModel) (globals : Globals) (fits : Bool)
    → IsSameOrHasTaken s telegram fits (subscription_taking s telegram globals fits).object
HasTaken-taking s (PdIs src dst telegram) globals fits =
    either (is_accepted_value s src dst telegram.head globals fits) refl
  where
    either :
        (b : Bool) → is_accepted_value s src dst telegram.head globals fits ≡ b
        → IsSameOrHasTaken
        s
        (PdIs src dst telegram)
        fits
        (subscription_taking s (PdIs src dst telegram) globals fits).object
    either true is =
        let accepted = is_for-is_accepted s src dst telegram.head globals fits is in
        inr (record {
          kind = kind-is_for s src dst telegram.head globals accepted.0;
          com_id = com_id-is_for s src dst telegram.head globals accepted.0;
          fits = accepted.1;
          state = rw is refl;
          value = rw is refl;
        })
    either false is = inl (rw is refl)
HasTaken-taking s (MdIs src dst telegram) globals fits = inl refl
