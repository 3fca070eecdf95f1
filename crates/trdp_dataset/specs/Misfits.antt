-- The faults that are listed of the datasets of a file, which may have others: an element is None
-- where its type isn't known.
use Rattle.std.specs.Prelude.{◌==◌, ◌&&◌, not, nat_le, ℕ, Bool, true, false, List, [], ◌∷◌, ◌++◌}
use Rattle.std.specs.Prelude.{map, flat_map, filter, Option, Some, None, option_map}
use Rattle.std.specs.Prelude.{option_and_then, if◌then◌else◌}
use Rattle.std.specs.List.{filter_map}
use Rattle.toml.specs.Data.{Data, Members, as_table}
use Rattle.trdp_dataset.specs.declared.element.Element.{Element}
use Rattle.trdp_dataset.specs.declared.row.FileRow.{FileRow}
use Rattle.trdp_dataset.specs.declared.key.Key.TheVariants.{Dataset, DatasetId, Elements}
use Rattle.trdp_dataset.specs.declared.fault.ConfigFault.{ConfigFault}
use Rattle.trdp_dataset.specs.declared.fault.ConfigFault.TheVariants.{TwiceId, NoDataset, NoCount}
use Rattle.trdp_dataset.specs.declared.fault.ConfigFault.TheVariants.{TooDeep, TooBig}
use Rattle.trdp_dataset.specs.Elements.{form_of, nested_id, is_count}
use Rattle.trdp_dataset.specs.Datasets.{DatasetModel, is_known, passes, all_pass}
use Rattle.trdp_dataset.specs.Depths.{is_within}
use Rattle.trdp_dataset.specs.ZeroSizes.{form_size, entries_size, dataset_size}
use Rattle.trdp_dataset.specs.Limits.{value_limit}
use Rattle.trdp_dataset.specs.Values.{identifier_in}
use Rattle.trdp_dataset.specs.Positions.{value_at, items_at, tables_at}
use Rattle.trdp_dataset.specs.Configs.{element_in}
use Rattle.trdp_dataset.specs.Findings.{listed_unless}

-- a dataset of a file, which may lack its identifier and elements
pub record RowModel : Type 0 where
  pub id : Option ℕ
  pub elements : List (Option Element)

abbrev pub row_seen : FileRow → RowModel
row_seen row = record { id = row.id; elements = row.elements.items }

abbrev pub rows_seen : List FileRow → List RowModel
rows_seen rows = map row_seen rows

-- the element that a member of an array is
abbrev pub element_from : Data → Option Element
element_from d = option_and_then element_in (as_table d)

-- the dataset that a table is
unfoldable pub row_in : Members → RowModel
row_in members = record {
  id = option_and_then identifier_in (value_at DatasetId members);
  elements = map element_from (items_at Elements members);
}

-- the datasets of a file
unfoldable pub file_rows : Members → List RowModel
file_rows top = map row_in (tables_at Dataset top)

-- the elements that are there
abbrev pub known_among : List (Option Element) → List Element
known_among es = filter_map (λ e. e) es

-- the dataset with its known elements, if it has an identifier
abbrev pub row_dataset : RowModel → Option DatasetModel
row_dataset row =
    option_map (λ id. record { id = id; elements = known_among row.elements }) row.id

-- datasets with one more, if its identifier is new
abbrev pub added : List DatasetModel → Option DatasetModel → List DatasetModel
added ds None = ds
added ds (Some d) = if is_known ds d.id then ds else ds ++ d ∷ []

-- datasets and those that are added one after the other: the first of each identifier
abbrev pub firsts : List DatasetModel → List (Option DatasetModel) → List DatasetModel
firsts ds [] = ds
firsts ds (o ∷ later) = firsts (added ds o) later

abbrev pub twice_at : List DatasetModel → Option DatasetModel → List ConfigFault
twice_at ds None = []
twice_at ds (Some d) = listed_unless (not (is_known ds d.id)) TwiceId

-- the datasets whose identifiers are there already
abbrev pub twices : List DatasetModel → List (Option DatasetModel) → List ConfigFault
twices ds [] = []
twices ds (o ∷ later) = twice_at ds o ++ twices (added ds o) later

-- the dataset of a type, if it isn't there
abbrev pub unknown_nested : List DatasetModel → Option ℕ → List ConfigFault
unknown_nested known None = []
unknown_nested known (Some id) = listed_unless (is_known known id) (NoDataset id)

abbrev pub missing_of : List DatasetModel → Option Element → List ConfigFault
missing_of known None = []
missing_of known (Some e) = unknown_nested known (nested_id (form_of e.kind))

-- an element is an array of size 0 without a count before it
abbrev pub lacks_count : (is_counted : Bool) → Element → Bool
lacks_count is_counted e = (e.size == 0) && not is_counted

-- the same of one that may not be known, which is taken for a single value
abbrev pub is_uncounted : (is_counted : Bool) → Option Element → Bool
is_uncounted is_counted None = false
is_uncounted is_counted (Some e) = lacks_count is_counted e

-- an element counts the items of an array after it, or it isn't known
abbrev pub may_count : Option Element → Bool
may_count None = true
may_count (Some e) = is_count e

-- the arrays of size 0 that no count comes before; the first element comes after one if so said
abbrev pub counts_missing : (is_counted : Bool) → List (Option Element) → List ConfigFault
counts_missing is_counted [] = []
counts_missing is_counted (e ∷ es) =
    listed_unless (not (is_uncounted is_counted e)) NoCount ++ counts_missing (may_count e) es

-- the faults of the elements of a dataset
unfoldable pub unfit_of : List DatasetModel → RowModel → List ConfigFault
unfit_of known row =
    flat_map (missing_of known) row.elements ++ counts_missing false row.elements

-- the elements that are no datasets, or that are of datasets which are there
abbrev pub sound_among : List DatasetModel → List Element → List Element
sound_among known es = filter (λ e. passes (is_known known) (form_of e.kind)) es

-- the elements of a dataset that are known, and of datasets which are there
unfoldable pub sound_elements : List DatasetModel → RowModel → List Element
sound_elements known row = sound_among known (known_among row.elements)

abbrev pub sound_dataset : List DatasetModel → RowModel → Option DatasetModel
sound_dataset known row =
    option_map (λ id. record { id = id; elements = sound_elements known row }) row.id

-- the datasets with these elements
unfoldable pub sound_in : List DatasetModel → List RowModel → List DatasetModel
sound_in known rows = firsts [] (map (sound_dataset known) rows)

-- elements nest no deeper than they may
unfoldable pub is_shallow : List DatasetModel → List Element → Bool
is_shallow sound es = all_pass (is_within sound 4) es

-- the zero value of elements is no longer than it may be
unfoldable pub is_short : List DatasetModel → List Element → Bool
is_short sound es = nat_le (entries_size (form_size (dataset_size sound 4)) es) value_limit

-- elements nest no deeper than they may, and their zero value is too long
unfoldable pub is_big : List DatasetModel → List Element → Bool
is_big sound es = is_shallow sound es && not (is_short sound es)

unfoldable pub deep_of : List DatasetModel → List DatasetModel → RowModel → List ConfigFault
deep_of known sound row = listed_unless (is_shallow sound (sound_elements known row)) TooDeep

unfoldable pub big_of : List DatasetModel → List DatasetModel → RowModel → List ConfigFault
big_of known sound row = listed_unless (not (is_big sound (sound_elements known row))) TooBig

-- the datasets of a file, the first of each identifier, with their known elements
unfoldable pub known_in : List RowModel → List DatasetModel
known_in rows = firsts [] (map row_dataset rows)

-- the faults of datasets that don't fit together, where these are known, and these sound
unfoldable pub fit_faults : List DatasetModel → List DatasetModel → List RowModel
    → List ConfigFault
fit_faults known sound rows = flat_map (unfit_of known) rows
    ++ (flat_map (deep_of known sound) rows ++ flat_map (big_of known sound) rows)

-- all faults of the datasets of a file
unfoldable pub misfits : List RowModel → List ConfigFault
misfits rows = twices [] (map row_dataset rows)
    ++ fit_faults (known_in rows) (sound_in (known_in rows) rows) rows
