-- What a node keeps true of each of its objects: the laws of objects hold of it, and a subscription
-- shows a value of its dataset.
use Rattle.std.specs.Prelude.{◌≡◌, ℕ, List, [], ◌∷◌, Some, true, slice_get}
use Rattle.trdp_model.specs.declared.any_object.AnyObject.{AnyObject}
use Rattle.trdp_model.specs.declared.any_object.AnyObject.TheVariants.{Subscription, Caller}
use Rattle.trdp_model.specs.Objects.{is_sound}
use Rattle.trdp_pd.specs.Subscriptions.{SubscriptionState}
use Rattle.trdp_model.specs.Configs.{NodeSetup, is_dataset, zero_size_of, is_fitting}
use Rattle.trdp_model.specs.Slots.{Entry, SlotState}

-- the subscription is of a dataset that values may be of, knows how long that one's zero value
-- is, and shows a value of it; of dataset 0 any bytes are
pub record ShowsFitting (setup : NodeSetup) (s : SubscriptionState) : Type 0 where
  pub dataset : is_dataset setup s.terms.dataset ≡ true
  pub zero_size : s.zero_size ≡ zero_size_of setup s.terms.dataset
  pub value : is_fitting setup s.terms.dataset s.value ≡ true

-- a subscription shows a value of its dataset, a caller is sound, and objects of the other kinds
-- always are
abbrev pub IsFit : NodeSetup → AnyObject → Type 0
IsFit setup (Subscription s) = ShowsFitting setup s
IsFit setup (Caller c) = is_sound (Caller c) ≡ true
IsFit setup object = Unit {0}

-- it is true of each of these objects
abbrev pub AllObjects : (AnyObject → Type 0) → List Entry → Type 0
AllObjects P [] = Unit {0}
AllObjects P (entry ∷ entries) = P entry.object × AllObjects P entries

-- it is true of each object of each slot
abbrev pub EachObject : (AnyObject → Type 0) → List SlotState → Type 0
EachObject P slots =
    (s : ℕ) (slot : SlotState) → slice_get slots s ≡ Some slot → AllObjects P slot.objects

-- each object is fit
abbrev pub AllFit : NodeSetup → List Entry → Type 0
AllFit setup objects = AllObjects (IsFit setup) objects

-- the same of each slot
abbrev pub EachFits : NodeSetup → List SlotState → Type 0
EachFits setup slots = EachObject (IsFit setup) slots

-- each object is sound
abbrev pub AllSound : List Entry → Type 0
AllSound objects = AllObjects (λ object. is_sound object ≡ true) objects

-- the same of each slot
abbrev pub EachSound : List SlotState → Type 0
EachSound slots = EachObject (λ object. is_sound object ≡ true) slots
