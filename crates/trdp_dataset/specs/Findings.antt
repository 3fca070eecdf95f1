-- The faults that are listed of a file: at each position in order, and of arrays at each member.
use Rattle.std.specs.Prelude.{ℕ, Bool, true, false, not, nat_le, List, [], ◌∷◌, ◌++◌, map}
use Rattle.std.specs.Prelude.{Option, Some, None, is_some, length, flat_map, if◌then◌else◌}
use Rattle.std.specs.List.{list_any}
use Rattle.toml.specs.Data.{Data, array, Members}
use Rattle.trdp_dataset.specs.declared.key.Key.{Key}
use Rattle.trdp_dataset.specs.declared.key.Wanted.{Wanted}
use Rattle.trdp_dataset.specs.declared.key.Wanted.TheVariants as wanted
use Rattle.trdp_dataset.specs.declared.fault.ConfigFault.{ConfigFault}
use Rattle.trdp_dataset.specs.declared.fault.ConfigFault.TheVariants.{WrongType, TooMany}
use Rattle.trdp_dataset.specs.declared.finding.Finding.{Finding}
use Rattle.trdp_dataset.specs.declared.key.Key.TheVariants.{Elements}
use Rattle.trdp_dataset.specs.Keys.{wanted_by, element_keys}
use Rattle.trdp_dataset.specs.Values.{items_list, member_in, address_within, gives}
use Rattle.trdp_dataset.specs.Positions.{PositionModel, positions_at, positions_of_all, tables_at}
use Rattle.trdp_dataset.specs.Faults.{fault_at, least_fault}

-- the faults of findings, in order
abbrev pub faults_of : List Finding → List ConfigFault
faults_of found = map (λ f. f.fault) found

-- of faults in order the one of the lowest number, and of several of that number the first
abbrev pub least_of : List ConfigFault → Option ConfigFault
least_of faults = least_fault (map (λ f. Some f) faults)

-- a fault is listed unless a test passes
abbrev pub listed_unless : Bool → ConfigFault → List ConfigFault
listed_unless true fault = []
listed_unless false fault = fault ∷ []

-- the most members of an array of numbers or of addresses
abbrev pub most_members : Wanted → Option ℕ
most_members wanted.Table = None
most_members (wanted.Tables most) = None
most_members wanted.Address = None
most_members (wanted.Number least most) = None
most_members (wanted.Numbers most least greatest) = Some most
most_members (wanted.Addresses most least greatest) = Some most
most_members (wanted.Quota most) = None
most_members (wanted.Identifier least most) = None
most_members wanted.Kind = None

-- the members of a value, if it is an array
abbrev pub array_members : Data → Option (List Data)
array_members (array ds) = Some (items_list ds)
array_members _ = None

-- the members of what was found at a key, if it is an array
abbrev pub array_in : Option Data → Option (List Data)
array_in None = None
array_in (Some d) = array_members d

-- an address in the range that no member before gives
abbrev pub address_wanted : ℕ → ℕ → List Data → Option ℕ → Bool
address_wanted least greatest before None = false
address_wanted least greatest before (Some n) = not (list_any (gives least greatest n) before)

-- a member of an array is what is expected: a number in the range, or an address in the range that
-- no member before gives
abbrev pub member_wanted : Wanted → List Data → Data → Bool
member_wanted wanted.Table before d = false
member_wanted (wanted.Tables most) before d = false
member_wanted wanted.Address before d = false
member_wanted (wanted.Number least most) before d = false
member_wanted (wanted.Numbers most least greatest) before d =
    is_some (member_in (wanted.Numbers most least greatest) d)
member_wanted (wanted.Addresses most least greatest) before d =
    address_wanted least greatest before (address_within least greatest d)
member_wanted (wanted.Quota most) before d = false
member_wanted (wanted.Identifier least most) before d = false
member_wanted wanted.Kind before d = false

-- the members that aren't what the key needs; where there are too many of them, each is compared
-- with none before it
abbrev pub unwanted : Key → (are_few : Bool) → List Data → List Data → List ConfigFault
unwanted key are_few before [] = []
unwanted key are_few before (d ∷ ds) =
    listed_unless (member_wanted (wanted_by key) (if are_few then before else []) d) (WrongType key)
    ++ unwanted key are_few (before ++ d ∷ []) ds

-- the faults of an array of numbers or of addresses, of which the key allows at most that number
unfoldable pub members_faults : Key → ℕ → List Data → List ConfigFault
members_faults key most ds = unwanted key (nat_le (length ds) most) [] ds
    ++ listed_unless (nat_le (length ds) most) TooMany

abbrev pub member_by_member : Key → Option ℕ → Option (List Data) → ConfigFault → List ConfigFault
member_by_member key (Some most) (Some ds) fault = members_faults key most ds
member_by_member key (Some most) None fault = fault ∷ []
member_by_member key None members fault = fault ∷ []

-- the faults at a key that has one: those of its members where an array of numbers or of addresses
-- is expected and there is an array
unfoldable pub key_faults : Key → Option Data → ConfigFault → List ConfigFault
key_faults key found fault =
    member_by_member key (most_members (wanted_by key)) (array_in found) fault

abbrev pub listed_at : Key → Option Data → Option ConfigFault → List ConfigFault
listed_at key found None = []
listed_at key found (Some fault) = key_faults key found fault

-- the faults that are listed of a position
abbrev pub faults_at : PositionModel → List ConfigFault
faults_at position = listed_at position.key position.found (fault_at position)

-- the faults that are listed of positions
abbrev pub all_faults : List PositionModel → List ConfigFault
all_faults positions = flat_map faults_at positions

-- the positions of keys in a table, if there is one
abbrev pub positions_if : List Key → Option Members → List PositionModel
positions_if keys None = []
positions_if keys (Some members) = positions_at keys members

-- the positions of the elements of a dataset, if there is one
abbrev pub elements_if : Option Members → List PositionModel
elements_if None = []
elements_if (Some members) = positions_of_all element_keys (tables_at Elements members)
