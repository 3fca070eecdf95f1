-- A slot for the worked examples of views.
use Rattle.std.specs.Prelude.{[], ◌∷◌}
use Rattle.trdp_pd.specs.Subscriptions.{SubscriptionState}
use Rattle.trdp_model.specs.declared.any_object.AnyObject.TheVariants.{Subscription}
use Rattle.trdp_model.specs.Slots.{SlotState}

-- a slot whose only object is this subscription
abbrev pub with_subscription : SubscriptionState → SlotState
with_subscription s = record {
  quotas = [];
  next = 2;
  objects = record { handle = 1; object = Subscription s } ∷ [];
}
