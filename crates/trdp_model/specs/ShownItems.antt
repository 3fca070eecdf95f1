-- The item that a subscription shows.
use Rattle.std.specs.Prelude.{◌≡◌, ℕ, Option, Some, None, Result, Ok, Err, ◌==◌, if◌then◌else◌}
use Rattle.trdp_model.specs.Configs.{NodeSetup}
use Rattle.trdp_marshal.specs.declared.item.Item.{Item}
use Rattle.trdp_marshal.specs.Items.{model_of}
use Rattle.trdp_marshal.specs.Spells.{Spells}
use Rattle.trdp_pd.specs.Subscriptions.{SubscriptionState}
use Rattle.trdp_model.specs.declared.look.LookFault.{LookFault}
use Rattle.trdp_model.specs.declared.look.LookFault.TheVariants.{NoHandle, WrongKind}
use Rattle.trdp_model.specs.declared.look.ValueFault.{ValueFault}
use Rattle.trdp_model.specs.declared.look.ValueFault.TheVariants.{NoSlot}
use Rattle.trdp_model.specs.declared.look.ValueFault.TheVariants.{NoHandle as NoHandleToShow}
use Rattle.trdp_model.specs.declared.look.ValueFault.TheVariants.{WrongKind as WrongKindToShow}
use Rattle.trdp_model.specs.declared.look.ValueFault.TheVariants.{NoDataset, OutOfMemory}
use Rattle.trdp_model.specs.Looks.{subscription_at}
use Rattle.trdp_model.specs.Slots.{SlotState}

-- the same fault of a look at an item
abbrev pub shown_fault : LookFault → ValueFault
shown_fault NoHandle = NoHandleToShow
shown_fault WrongKind = WrongKindToShow

-- a subscription whose value is an item: the bytes of dataset 0 are no item
abbrev pub showing : SubscriptionState → Result SubscriptionState ValueFault
showing s = if s.terms.dataset == 0 then Err NoDataset else Ok s

-- the same, if there is a subscription
abbrev pub showing_of : Result SubscriptionState LookFault → Result SubscriptionState ValueFault
showing_of (Ok s) = showing s
showing_of (Err fault) = Err (shown_fault fault)

-- the same of the subscription of a handle in a slot, if there is one
abbrev pub showing_in : Option SlotState → ℕ → Result SubscriptionState ValueFault
showing_in None handle = Err NoSlot
showing_in (Some slot) handle = showing_of (subscription_at handle slot.objects)

-- the answer to a look at that subscription: the item whose bytes it shows, or OutOfMemory;
-- without such a subscription the reason
abbrev pub ShowsItem : NodeSetup → Result SubscriptionState ValueFault → Result Item ValueFault
    → Type 0
ShowsItem setup (Ok s) (Ok item) = Spells setup.registry s.terms.dataset (model_of item) s.value
ShowsItem setup (Ok s) (Err fault) = fault ≡ OutOfMemory
ShowsItem setup (Err fault) (Ok item) = ⊥
ShowsItem setup (Err fault) (Err other) = other ≡ fault
