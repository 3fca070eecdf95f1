-- What is true of every subscription: its proofs for the trait of all objects. They are here
-- because what a trait's implementation names in src/ may be in specs/ alone.
use Rattle.std.proofs.Common.{◌≡◌, ℕ, ◌+◌, Bool, true, false, refl, arith}
use Rattle.std.specs.Prelude.{◌==◌}
use Rattle.std.proofs.lemmas.Bool.Decides.{nat_tests}
use Rattle.trdp_base.specs.declared.place.Place.{Place}
use Rattle.trdp_head.specs.declared.pd.PdHead.{PdHead}
use Rattle.trdp_filter.specs.declared.globals.Globals.{Globals}
use Rattle.trdp_filter.specs.Telegrams.{TelegramModel, PdIs, MdIs}
use Rattle.trdp_pd.specs.declared.object.Taken.TheVariants.{Nothing as NotTaken}
use Rattle.trdp_pd.specs.Due.{has_come_by}
use Rattle.trdp_pd.specs.PublisherLaws.{nat_le-past}
use Rattle.trdp_pd.specs.Subscriptions.{SubscriptionState, deadline_from, is_for_subscription}
use Rattle.trdp_pd.specs.Subscriptions.{is_accepted_value}
use Rattle.trdp_pd.specs.Subscriptions.{subscription_addressed, subscription_taking}
use Rattle.trdp_pd.specs.Subscriptions.{subscription_firing}

-- a telegram that isn't for a subscription isn't accepted
is_accepted_value-unaddressed :
    (s : SubscriptionState) (src dst : Place) (head : PdHead) (globals : Globals) (fits : Bool)
    → is_for_subscription s src dst head globals ≡ false
    → is_accepted_value s src dst head globals fits ≡ false
unfolding is_accepted_value
is_accepted_value-unaddressed s src dst head globals fits is = rw is refl

-- a telegram that isn't for a subscription changes nothing
pub subscription_taking-unaddressed :
    (s : SubscriptionState) (telegram : TelegramModel) (globals : Globals) (fits : Bool)
    → subscription_addressed s telegram globals ≡ false
    → subscription_taking s telegram globals fits ≡ record { object = s; taken = NotTaken }
subscription_taking-unaddressed s (PdIs src dst telegram) globals fits is =
    rw (is_accepted_value-unaddressed s src dst telegram.head globals fits is) refl
subscription_taking-unaddressed s (MdIs src dst telegram) globals fits is = refl

-- a subscription that fired has no deadline
pub subscription_due-firing :
    (s : SubscriptionState) (globals : Globals)
    → has_come_by globals.now (subscription_firing s globals).object.deadline ≡ false
subscription_due-firing s globals = refl

-- a supervision time that begins now ends later
pub deadline_from-later :
    (supervision now : ℕ) → has_come_by now (deadline_from supervision now) ≡ false
unfolding deadline_from
deadline_from-later supervision now = either (supervision == 0) refl
  where
    either :
        (b : Bool) → (supervision == 0) ≡ b
        → has_come_by now (deadline_from supervision now) ≡ false
    either true is = rw is refl
    either false is = rw is (nat_le-past (now + supervision) now (grind (arith, nat_tests)))

-- a telegram makes no subscription due
pub subscription_due-taking :
    (s : SubscriptionState) (telegram : TelegramModel) (globals : Globals) (fits : Bool)
    → has_come_by globals.now s.deadline ≡ false
    → has_come_by globals.now (subscription_taking s telegram globals fits).object.deadline ≡ false
subscription_due-taking s (PdIs src dst telegram) globals fits not =
    either (is_accepted_value s src dst telegram.head globals fits) refl
  where
    either :
        (b : Bool) → is_accepted_value s src dst telegram.head globals fits ≡ b
        → has_come_by
        globals.now
        (subscription_taking s (PdIs src dst telegram) globals fits).object.deadline
        ≡ false
    either true is = rw is (deadline_from-later s.terms.supervision globals.now)
    either false is = rw is not
subscription_due-taking s (MdIs src dst telegram) globals fits not = not
