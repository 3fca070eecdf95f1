-- What the values of a configuration file mean.
use Rattle.std.specs.Prelude.{◌≤◌, ◌==◌, ◌||◌, bytes_eq, ℕ, zero, suc, ◌^◌, pos}
use Rattle.std.specs.Prelude.{Bool, false, List, []}
use Rattle.std.specs.Prelude.{◌∷◌, Option, Some, None, option_and_then, is_some, if◌then◌else◌}
use Rattle.std.specs.List.{filter_map, list_all, list_any}
use Rattle.trdp_base.specs.AddressText.{text_of_ip}
use Rattle.toml.specs.Data.{Data, string, integer, array, Items}
use Rattle.toml.specs.Data.{no_items, item, as_str, as_integer, as_table}
use Rattle.trdp_dataset.specs.declared.element.ElementKind.{ElementKind}
use Rattle.trdp_dataset.specs.declared.key.Wanted.{Wanted}
use Rattle.trdp_dataset.specs.declared.key.Wanted.TheVariants as wanted
use Rattle.trdp_dataset.specs.Types.{in_range, identifier_of, type_named}
use Rattle.trdp_dataset.specs.Types.{type_numbered, is_real_name, is_real_number}

-- the items in order
abbrev pub items_list : Items → List Data
items_list no_items = []
items_list (item d ds) = d ∷ items_list ds

-- the members of an array; any other value has none
abbrev pub items_in : Data → List Data
items_in (array ds) = items_list ds
items_in _ = []

-- the number below a limit that passes a test, if there is one
unfoldable pub found_below : (ℕ → Bool) → ℕ → Option ℕ
found_below test zero = None
found_below test (suc n) = if test n then Some n else found_below test n

-- a text is the written form of the address with that number
abbrev pub is_written_so : List ℕ → ℕ → Bool
is_written_so text n = bytes_eq text (text_of_ip (record { 0 = n }))

-- the address of a text: the one of 32 bits whose written form it is
unfoldable pub address_of : List ℕ → Option ℕ
address_of text = found_below (is_written_so text) (2 ^ 32)

-- the address that a value gives
abbrev pub address_in : Data → Option ℕ
address_in (string text) = address_of text
address_in _ = None

-- the whole number that a value is, if it is 0 or above
abbrev pub natural_in : Data → Option ℕ
natural_in (integer (pos n)) = Some n
natural_in _ = None

-- the whole number that a value is, if it is in the range
abbrev pub natural_within : ℕ → ℕ → Data → Option ℕ
natural_within least most d = option_and_then (in_range least most) (natural_in d)

-- the number that a value is, if a number in this range is expected
abbrev pub number_in : Wanted → Data → Option ℕ
number_in (wanted.Number least most) d = natural_within least most d
number_in (wanted.Quota most) d = natural_within 0 most d
number_in _ d = None

-- the number that a member of an array is, if an array of numbers in this range is expected
abbrev pub member_in : Wanted → Data → Option ℕ
member_in (wanted.Numbers most least greatest) d = natural_within least greatest d
member_in _ d = None

-- the address that a value gives, if it is in the range
abbrev pub address_within : ℕ → ℕ → Data → Option ℕ
address_within least greatest d = option_and_then (in_range least greatest) (address_in d)

-- the address that a member of an array gives, if an array of addresses in this range is expected
abbrev pub member_address_in : Wanted → Data → Option ℕ
member_address_in (wanted.Addresses most least greatest) d = address_within least greatest d
member_address_in _ d = None

-- a number is in the range that is expected
abbrev pub IsAllowed : Wanted → ℕ → Type 0
IsAllowed (wanted.Number least most) n = (least ≤ n) × (n ≤ most)
IsAllowed (wanted.Quota most) n = n ≤ most
IsAllowed _ n = ⊥

-- the identifier of a dataset that a value is
abbrev pub identifier_in : Data → Option ℕ
identifier_in d = option_and_then identifier_of (natural_in d)

-- the type that a value names or numbers
abbrev pub kind_in : Data → Option ElementKind
kind_in (string name) = type_named name
kind_in (integer (pos n)) = type_numbered n
kind_in _ = None

-- a value that names or numbers a real number
-- rule: dataset.real
abbrev pub is_real : Data → Bool
is_real (string name) = is_real_name name
is_real (integer (pos n)) = is_real_number n
is_real _ = false

abbrev pub is_integer : Data → Bool
is_integer d = is_some (as_integer d)

abbrev pub is_table : Data → Bool
is_table d = is_some (as_table d)

-- an array each of whose members passes a test
abbrev pub is_array_of : (Data → Bool) → Data → Bool
is_array_of test (array ds) = list_all test (items_list ds)
is_array_of test _ = false

-- an array each of whose members is a table
abbrev pub is_tables : Data → Bool
is_tables d = is_array_of is_table d

-- a whole number in the range
abbrev pub is_number : ℕ → ℕ → Data → Bool
is_number least greatest d = is_some (natural_within least greatest d)

-- an array each of whose members is a whole number in the range
abbrev pub is_numbers : ℕ → ℕ → Data → Bool
is_numbers least greatest d = is_array_of (is_number least greatest) d

-- an address in the range
abbrev pub is_address : ℕ → ℕ → Data → Bool
is_address least greatest d = is_some (address_within least greatest d)

-- the address that is given is this one
abbrev pub is_given : ℕ → Option ℕ → Bool
is_given n None = false
is_given n (Some m) = n == m

-- a value gives this address, of those in the range
abbrev pub gives : ℕ → ℕ → ℕ → Data → Bool
gives least greatest n d = is_given n (address_within least greatest d)

-- a number is one of these
abbrev pub is_among : List ℕ → ℕ → Bool
is_among ns n = list_any (λ m. n == m) ns

-- a number is among these twice
abbrev pub has_again : List ℕ → Bool
has_again [] = false
has_again (n ∷ ns) = is_among ns n || has_again ns

-- the addresses in the range that values give
abbrev pub addresses_among : ℕ → ℕ → List Data → List ℕ
addresses_among least greatest ds = filter_map (address_within least greatest) ds

-- an array each of whose members is an address in the range
abbrev pub are_addresses : ℕ → ℕ → Data → Bool
are_addresses least greatest d = is_array_of (is_address least greatest) d

-- a name or a whole number
abbrev pub is_type : Data → Bool
is_type d = is_some (as_str d) || is_integer d
