-- The faults of a configuration file: of each position of a key, and of the datasets.
use Rattle.std.specs.Prelude.{◌≡◌, ◌==◌, ◌&&◌, ◌||◌, not, nat_lt, nat_le, ℕ, Bool, true}
use Rattle.std.specs.Prelude.{false, List, [], ◌∷◌, Option, Some, None, option_map}
use Rattle.std.specs.Prelude.{is_some, find, length, map, Result, Ok, Err, if◌then◌else◌}
use Rattle.std.specs.List.{filter_map, flat_map, list_all}
use Rattle.toml.specs.Data.{Data}
use Rattle.trdp_dataset.specs.declared.element.Element.{Element}
use Rattle.trdp_dataset.specs.declared.key.Key.{Key}
use Rattle.trdp_dataset.specs.declared.key.Wanted.{Wanted}
use Rattle.trdp_dataset.specs.declared.key.Wanted.TheVariants as wanted
use Rattle.trdp_dataset.specs.declared.fault.ConfigFault.{ConfigFault}
use Rattle.trdp_dataset.specs.declared.fault.ConfigFault.TheVariants.{Toml, Missing, WrongType}
use Rattle.trdp_dataset.specs.declared.fault.ConfigFault.TheVariants.{Real, BadId, TwiceId}
use Rattle.trdp_dataset.specs.declared.fault.ConfigFault.TheVariants.{NoDataset, NoCount, TooDeep}
use Rattle.trdp_dataset.specs.declared.fault.ConfigFault.TheVariants.{TooBig, TooMany, OutOfMemory}
use Rattle.trdp_dataset.specs.Elements.{form_of, nested_id}
use Rattle.trdp_dataset.specs.Datasets.{DatasetModel, is_known, all_counted}
use Rattle.trdp_dataset.specs.Depths.{is_within}
use Rattle.trdp_dataset.specs.Limits.{value_limit}
use Rattle.trdp_dataset.specs.ZeroSizes.{zero_size}
use Rattle.trdp_dataset.specs.Keys.{wanted_by, is_required}
use Rattle.trdp_dataset.specs.Values.{items_in, natural_in, natural_within}
use Rattle.trdp_dataset.specs.Values.{address_in, identifier_in, kind_in, is_real}
use Rattle.trdp_dataset.specs.Values.{is_integer, is_table, is_tables, is_numbers, are_addresses}
use Rattle.trdp_dataset.specs.Values.{addresses_among, has_again}
use Rattle.trdp_dataset.specs.Values.{is_type}
use Rattle.trdp_dataset.specs.Positions.{PositionModel}

-- a value has to be of its key's kind
abbrev pub wrong_unless : Key → Bool → Option ConfigFault
wrong_unless key true = None
wrong_unless key false = Some (WrongType key)

-- an array of as many members as the second number says, of which the key allows at most the
-- first; without any it is as good as none where the key must be there
abbrev pub count_fault : Key → ℕ → ℕ → Option ConfigFault
count_fault key most count =
    if is_required key && (count == 0) then Some (Missing key)
    else if nat_lt most count then Some TooMany
    else None

abbrev pub tables_fault : Key → ℕ → Data → Option ConfigFault
tables_fault key most d =
    if is_tables d then count_fault key most (length (items_in d)) else Some (WrongType key)

-- an array of whole numbers in a range, of which the key allows at most the first number
abbrev pub numbers_fault : Key → ℕ → ℕ → ℕ → Data → Option ConfigFault
numbers_fault key most least greatest d =
    if is_numbers least greatest d then count_fault key most (length (items_in d))
    else Some (WrongType key)

-- that something is twice in an array is a fault where the array has no other
abbrev pub again_fault : Key → (again : Bool) → Option ConfigFault → Option ConfigFault
again_fault key again (Some fault) = Some fault
again_fault key true None = Some (WrongType key)
again_fault key false None = None

-- an array of addresses in a range, of which the key allows at most the first number, none twice
abbrev pub addresses_fault : Key → ℕ → ℕ → ℕ → Data → Option ConfigFault
addresses_fault key most least greatest d =
    if are_addresses least greatest d
    then again_fault key (has_again (addresses_among least greatest (items_in d)))
    (count_fault key most (length (items_in d)))
    else Some (WrongType key)

-- a quota, of which the key allows at most this number
abbrev pub quota_fault : Key → ℕ → Option ℕ → Option ConfigFault
quota_fault key most None = Some (WrongType key)
quota_fault key most (Some n) = if nat_lt most n then Some TooMany else None

abbrev pub bad_unless : Bool → Option ConfigFault
bad_unless true = None
bad_unless false = Some BadId

-- an identifier of a dataset
abbrev pub identifier_fault : Key → Data → Option ConfigFault
identifier_fault key d =
    if is_integer d then bad_unless (is_some (identifier_in d)) else Some (WrongType key)

-- the type of an element
abbrev pub kind_fault : Key → Data → Option ConfigFault
kind_fault key d =
    if is_type d then (if is_real d then Some Real else bad_unless (is_some (kind_in d)))
    else Some (WrongType key)

-- the fault of a value at a key, by what the key needs
abbrev pub value_fault : Key → Wanted → Data → Option ConfigFault
value_fault key wanted.Table d = wrong_unless key (is_table d)
value_fault key (wanted.Tables most) d = tables_fault key most d
value_fault key wanted.Address d = wrong_unless key (is_some (address_in d))
value_fault key (wanted.Number least most) d =
    wrong_unless key (is_some (natural_within least most d))
value_fault key (wanted.Numbers most least greatest) d = numbers_fault key most least greatest d
value_fault key (wanted.Addresses most least greatest) d =
    addresses_fault key most least greatest d
value_fault key (wanted.Quota most) d = quota_fault key most (natural_in d)
value_fault key (wanted.Identifier least most) d = identifier_fault key d
value_fault key wanted.Kind d = kind_fault key d

abbrev pub found_fault : Key → Option Data → Option ConfigFault
found_fault key None = if is_required key then Some (Missing key) else None
found_fault key (Some d) = value_fault key (wanted_by key) d

-- the fault of one position
abbrev pub fault_at : PositionModel → Option ConfigFault
fault_at position = found_fault position.key position.found

-- the number of a fault in the order of the faults
abbrev pub rank : ConfigFault → ℕ
rank Toml = 1
rank (Missing key) = 2
rank (WrongType key) = 3
rank Real = 4
rank BadId = 5
rank TwiceId = 6
rank (NoDataset id) = 7
rank NoCount = 8
rank TooDeep = 9
rank TooBig = 10
rank TooMany = 11
rank OutOfMemory = 12

-- of two faults the one of the lower number, and of two of one number the first
abbrev pub least_of_two : Option ConfigFault → Option ConfigFault → Option ConfigFault
least_of_two None later = later
least_of_two (Some fault) None = Some fault
least_of_two (Some fault) (Some later) =
    if nat_lt (rank later) (rank fault) then Some later else Some fault

-- of all faults in order the one of the lowest number, and of several of that number the first
abbrev pub least_fault : List (Option ConfigFault) → Option ConfigFault
least_fault [] = None
least_fault (fault ∷ later) = least_of_two fault (least_fault later)

-- the least fault of positions, where it comes before those of datasets
abbrev pub before_datasets : Option ConfigFault → Option ConfigFault
before_datasets (Some TooMany) = None
before_datasets fault = fault

-- some dataset has the identifier of an earlier one
abbrev pub has_twice : List DatasetModel → Bool
has_twice [] = false
has_twice (d ∷ ds) = is_known ds d.id || has_twice ds

unfoldable pub twice_id_in : List DatasetModel → Option ConfigFault
twice_id_in datasets = if has_twice datasets then Some TwiceId else None

-- the datasets that elements are of, in order
abbrev pub nested_ids : List Element → List ℕ
nested_ids es = filter_map (λ e. nested_id (form_of e.kind)) es

-- the first dataset that is nested somewhere and isn't there
unfoldable pub no_dataset_in : List DatasetModel → Option ConfigFault
no_dataset_in datasets =
    option_map (λ id. NoDataset id)
    (find (λ id. not (is_known datasets id)) (flat_map (λ d. nested_ids d.elements) datasets))

unfoldable pub no_count_in : List DatasetModel → Option ConfigFault
no_count_in datasets =
    if list_all (λ d. all_counted false d.elements) datasets then None else Some NoCount

unfoldable pub too_deep_in : List DatasetModel → Option ConfigFault
too_deep_in datasets =
    if list_all (λ d. is_within datasets 5 d.id) datasets then None else Some TooDeep

unfoldable pub too_big_in : List DatasetModel → Option ConfigFault
too_big_in datasets =
    if list_all (λ d. nat_le (zero_size datasets d.id) value_limit) datasets
    then None
    else Some TooBig

-- the first fault that there is
abbrev pub first_fault : List (Option ConfigFault) → Option ConfigFault
first_fault [] = None
first_fault (None ∷ later) = first_fault later
first_fault (Some fault ∷ later) = Some fault

-- the fault of datasets that don't fit together
abbrev pub fit_fault : List DatasetModel → Option ConfigFault
fit_fault datasets = first_fault
    (no_dataset_in datasets ∷ no_count_in datasets
    ∷ too_deep_in datasets ∷ too_big_in datasets ∷ [])

-- the fault of the datasets of a file; these faults follow one another in the order
abbrev pub dataset_fault : List DatasetModel → Option ConfigFault
dataset_fault datasets = first_fault
    (twice_id_in datasets ∷ no_dataset_in datasets ∷ no_count_in datasets
    ∷ too_deep_in datasets ∷ too_big_in datasets ∷ [])

-- the fault of a file with these positions and datasets: of all its faults the one of the lowest
-- number, and of several of that number the first
unfoldable pub fault_in : List PositionModel → List DatasetModel → Option ConfigFault
fault_in positions datasets =
    least_of_two (least_fault (map fault_at positions)) (dataset_fault datasets)

-- a fault that is returned is the expected one, or memory ran out
abbrev pub IsFaultOf : ConfigFault → Option ConfigFault → Type 0
IsFaultOf OutOfMemory expected = Unit {0}
IsFaultOf fault expected = expected ≡ Some fault

-- a call succeeds where no fault is expected, and else returns that fault, unless memory runs out
abbrev pub RefusedAs : {A : Type 0} → Option ConfigFault → Result A ConfigFault → Type 0
RefusedAs expected (Ok x) = expected ≡ None
RefusedAs expected (Err fault) = IsFaultOf fault expected
