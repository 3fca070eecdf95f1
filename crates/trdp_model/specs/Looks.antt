-- A look at a subscription.
use Rattle.std.specs.Prelude.{ℕ, List, Option, Some, None, Result, Ok, Err}
use Rattle.trdp_model.specs.declared.any_object.AnyObject.{AnyObject}
use Rattle.trdp_model.specs.declared.any_object.AnyObject.TheVariants.{Subscription}
use Rattle.trdp_pd.specs.Subscriptions.{SubscriptionState}
use Rattle.trdp_model.specs.declared.look.LookFault.{LookFault}
use Rattle.trdp_model.specs.declared.look.LookFault.TheVariants.{NoHandle, WrongKind}
use Rattle.trdp_model.specs.Slots.{Entry, entry_under}

-- the object as a subscription; an object of another kind is none
abbrev pub as_subscription : AnyObject → Result SubscriptionState LookFault
as_subscription (Subscription s) = Ok s
as_subscription object = Err WrongKind

-- the object of a handle as a subscription, if there is one
abbrev pub subscription_of : Option Entry → Result SubscriptionState LookFault
subscription_of None = Err NoHandle
subscription_of (Some entry) = as_subscription entry.object

-- the subscription of a handle, or why there is none
-- rule: refusal.handle
abbrev pub subscription_at : ℕ → List Entry → Result SubscriptionState LookFault
subscription_at handle objects = subscription_of (entry_under handle objects)
