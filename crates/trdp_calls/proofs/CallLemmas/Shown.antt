-- What decoding returns for a subscription that shows a value of its dataset.
-- For `item_shown`.
-- By: the bytes fit their dataset, so that of all faults only a missing dataset is left.
use Rattle.std.proofs.Common.{◌≡◌, ℕ, List, Some, None, Option, Bool, true, false, Ok, Err, refl}
use Rattle.std.specs.Prelude.{◌==◌, ◌&&◌, ◌||◌, not, is_some, if◌then◌else◌}
use Rattle.trdp_model.specs.Configs.{NodeSetup}
use Rattle.trdp_dataset.specs.Datasets.{DatasetModel, is_known}
use Rattle.trdp_marshal.specs.declared.fault.MarshalFault.{MarshalFault}
use Rattle.trdp_marshal.specs.declared.fault.MarshalFault.TheVariants.{NoDataset as UnknownDataset}
use Rattle.trdp_marshal.specs.declared.fault.MarshalFault.TheVariants.{Shape, TooLong}
use Rattle.trdp_marshal.specs.declared.item.Item.{Item}
use Rattle.trdp_marshal.specs.Items.{model_of}
use Rattle.trdp_marshal.specs.Faults.{decode_fault}
use Rattle.trdp_marshal.specs.Reading.{reading}
use Rattle.trdp_marshal.specs.Spells.{Spells}
use Rattle.trdp_pd.specs.Subscriptions.{SubscriptionState}
use Rattle.trdp_model.specs.declared.look.ValueFault.TheVariants.{NoDataset, OutOfMemory}
use Rattle.trdp_model.specs.Fitting.{ShowsFitting}
use Rattle.trdp_model.specs.ShownItems.{showing, ShowsItem}

-- the fault of decoding by whether the dataset is 0, whether it is known, and whether some item
-- spells the bytes
fault_by : Bool → Bool → Bool → Option MarshalFault
fault_by zero known spelled = if not zero && known
    then (if spelled then None else Some Shape) else Some UnknownDataset

-- bytes that fit have no fault but that of dataset 0
fits_by : (zero known spelled : Bool) → (zero || known) ≡ true → (zero || spelled) ≡ true
    → fault_by zero known spelled ≡ (if zero then Some UnknownDataset else None)
unfolding fault_by
fits_by true known spelled dataset fits = refl
fits_by false true true dataset fits = refl
fits_by false true false dataset fits = absurd (cc)
fits_by false false spelled dataset fits = absurd (cc)

fault_is : (setup : NodeSetup) (s : SubscriptionState)
    → ShowsFitting setup s → decode_fault setup.registry s.terms.dataset s.value
    ≡ (if s.terms.dataset == 0 then Some UnknownDataset else None)
unfolding decode_fault fault_by
fault_is setup s fit = fits_by (s.terms.dataset == 0) (is_known setup.registry s.terms.dataset)
    (is_some (reading setup.registry s.terms.dataset s.value)) fit.dataset fit.value

-- a subscription as decoding gets it: its node's registry, its dataset, its bytes
pub record IsGiven (setup : NodeSetup) (s : SubscriptionState) (registry : List DatasetModel)
    (dataset : ℕ) (bytes : List ℕ) : Type 0 where
  pub registry_is : registry ≡ setup.registry
  pub dataset_is : dataset ≡ s.terms.dataset
  pub bytes_are : bytes ≡ s.value

given_fault : (setup : NodeSetup) (s : SubscriptionState) (registry : List DatasetModel)
    (dataset : ℕ) (bytes : List ℕ) → ShowsFitting setup s
    → IsGiven setup s registry dataset bytes → decode_fault registry dataset bytes
    ≡ (if s.terms.dataset == 0 then Some UnknownDataset else None)
given_fault setup s registry dataset bytes fit given =
    rw (given.registry_is, given.dataset_is, given.bytes_are) (fault_is setup s fit)

never : (zero : Bool) (fault : MarshalFault) (found : Option MarshalFault)
    → (UnknownDataset ≡ fault → ⊥)
    → found ≡ (if zero then Some UnknownDataset else None) → found ≡ Some fault → ⊥
never true fault found other is same = let e : Some UnknownDataset ≡ Some fault = cc in other (cc)
never false fault found other is same = absurd (cc)

pub never_shape : (setup : NodeSetup) (s : SubscriptionState) (registry : List DatasetModel)
    (dataset : ℕ) (bytes : List ℕ) → ShowsFitting setup s
    → IsGiven setup s registry dataset bytes → decode_fault registry dataset bytes ≡ Some Shape → ⊥
never_shape setup s registry dataset bytes fit given is = never (s.terms.dataset == 0) Shape
    _ (λ e. absurd (cc)) (given_fault setup s registry dataset bytes fit given) is

pub never_too_long : (setup : NodeSetup) (s : SubscriptionState) (registry : List DatasetModel)
    (dataset : ℕ) (bytes : List ℕ) → ShowsFitting setup s → IsGiven setup s registry dataset bytes
    → decode_fault registry dataset bytes ≡ Some TooLong → ⊥
never_too_long setup s registry dataset bytes fit given is = never (s.terms.dataset == 0) TooLong
    _ (λ e. absurd (cc)) (given_fault setup s registry dataset bytes fit given) is

is_zero : (zero : Bool) (found : Option MarshalFault) → found
    ≡ (if zero then Some UnknownDataset else None) → found ≡ Some UnknownDataset → zero ≡ true
is_zero true found is same = refl
is_zero false found is same = absurd (cc)

is_not_zero : (zero : Bool) (found : Option MarshalFault)
    → found ≡ (if zero then Some UnknownDataset else None) → found ≡ None → zero ≡ false
is_not_zero true found is same = absurd (cc)
is_not_zero false found is same = refl

-- without a dataset there is no item
pub shows_none : (setup : NodeSetup) (s : SubscriptionState) (registry : List DatasetModel)
    (dataset : ℕ) (bytes : List ℕ) → ShowsFitting setup s → IsGiven setup s registry dataset bytes
    → decode_fault registry dataset bytes ≡ Some UnknownDataset
    → ShowsItem setup (showing s) (Err NoDataset)
shows_none setup s registry dataset bytes fit given is =
    rw (is_zero (s.terms.dataset == 0) _ (given_fault setup s registry dataset bytes fit given) is)
    refl

-- an allocation for the item may fail
pub lacks_memory : (setup : NodeSetup) (s : SubscriptionState) (registry : List DatasetModel)
    (dataset : ℕ) (bytes : List ℕ) → ShowsFitting setup s → IsGiven setup s registry dataset bytes
    → decode_fault registry dataset bytes ≡ None → ShowsItem setup (showing s) (Err OutOfMemory)
lacks_memory setup s registry dataset bytes fit given is = rw (is_not_zero (s.terms.dataset == 0) _
    (given_fault setup s registry dataset bytes fit given) is) refl

-- the item is the one that the bytes spell
pub shows_item : (setup : NodeSetup) (s : SubscriptionState) (registry : List DatasetModel)
    (dataset : ℕ) (bytes : List ℕ) (item : Item) → ShowsFitting setup s
    → IsGiven setup s registry dataset bytes → decode_fault registry dataset bytes ≡ None
    → Spells registry dataset (model_of item) bytes → ShowsItem setup (showing s) (Ok item)
shows_item setup s registry dataset bytes item fit given is spells =
    rw (is_not_zero (s.terms.dataset == 0) _
    (given_fault setup s registry dataset bytes fit given) is)
    (rw (given.registry_is, given.dataset_is, given.bytes_are) at spells)
