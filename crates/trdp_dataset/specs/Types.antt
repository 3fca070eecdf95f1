-- The types of elements, as a file names and numbers them.
use Rattle.std.specs.Prelude.{◌==◌, ◌&&◌, ◌||◌, nat_le, bytes_eq, ℕ, Bool, List, [], ◌∷◌}
use Rattle.std.specs.Prelude.{codes, Option, Some, None, option_map, find, if◌then◌else◌}
use Rattle.trdp_dataset.specs.declared.key.Key.TheVariants.{DatasetId}
use Rattle.trdp_dataset.specs.declared.key.Wanted.{Wanted}
use Rattle.trdp_dataset.specs.declared.key.Wanted.TheVariants.{Identifier}
use Rattle.trdp_dataset.specs.Keys.{wanted_by}
use Rattle.trdp_dataset.specs.declared.element.ElementKind.{ElementKind}
use Rattle.trdp_dataset.specs.declared.element.ElementKind.TheVariants.{Bool8, Char8, Utf16, Int8}
use Rattle.trdp_dataset.specs.declared.element.ElementKind.TheVariants.{Int16, Int32, Int64, Uint8}
use Rattle.trdp_dataset.specs.declared.element.ElementKind.TheVariants.{Uint16, Uint32, Uint64}
use Rattle.trdp_dataset.specs.declared.element.ElementKind.TheVariants.{Timedate32, Timedate48}
use Rattle.trdp_dataset.specs.declared.element.ElementKind.TheVariants.{Timedate64, Nested}

-- the names of the basic types
abbrev pub type_names : List (List ℕ × ElementKind)
type_names =
    (codes "BOOL8", Bool8) ∷ (codes "BITSET8", Bool8) ∷ (codes "CHAR8", Char8)
    ∷ (codes "UTF16", Utf16) ∷ (codes "INT8", Int8) ∷ (codes "INT16", Int16)
    ∷ (codes "INT32", Int32) ∷ (codes "INT64", Int64) ∷ (codes "UINT8", Uint8)
    ∷ (codes "UINT16", Uint16) ∷ (codes "UINT32", Uint32) ∷ (codes "UINT64", Uint64)
    ∷ (codes "TIMEDATE32", Timedate32) ∷ (codes "TIMEDATE48", Timedate48)
    ∷ (codes "TIMEDATE64", Timedate64) ∷ []

-- the numbers of the basic types
abbrev pub type_numbers : List (ℕ × ElementKind)
type_numbers =
    (1, Bool8) ∷ (2, Char8) ∷ (3, Utf16) ∷ (4, Int8) ∷ (5, Int16) ∷ (6, Int32) ∷ (7, Int64)
    ∷ (8, Uint8) ∷ (9, Uint16) ∷ (10, Uint32) ∷ (11, Uint64) ∷ (14, Timedate32)
    ∷ (15, Timedate48) ∷ (16, Timedate64) ∷ []

-- the type of that name
abbrev pub type_named : List ℕ → Option ElementKind
type_named name = option_map (λ row. row.1) (find (λ row. bytes_eq name row.0) type_names)

-- the number, if it is in the range, ends included
abbrev pub in_range : ℕ → ℕ → ℕ → Option ℕ
in_range least most n = if nat_le least n && nat_le n most then Some n else None

abbrev pub identifier_by : Wanted → ℕ → Option ℕ
identifier_by (Identifier least most) n = in_range least most n
identifier_by _ n = None

-- the identifier of a dataset that a number is, by the table of keys
abbrev pub identifier_of : ℕ → Option ℕ
identifier_of n = identifier_by (wanted_by DatasetId) n

abbrev pub nested_or : Option ℕ → Option ElementKind → Option ElementKind
nested_or None basic = basic
nested_or (Some id) basic = Some (Nested id)

-- the type of that number: a basic one, or the dataset of that identifier
abbrev pub type_numbered : ℕ → Option ElementKind
type_numbered n =
    nested_or (identifier_of n) (option_map (λ row. row.1) (find (λ row. n == row.0) type_numbers))

-- the names and numbers of the real numbers
abbrev pub is_real_name : List ℕ → Bool
is_real_name name = bytes_eq name (codes "REAL32") || bytes_eq name (codes "REAL64")

abbrev pub is_real_number : ℕ → Bool
is_real_number n = (n == 12) || (n == 13)
