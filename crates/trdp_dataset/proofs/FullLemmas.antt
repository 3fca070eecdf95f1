-- What a file has for datasets where no fault comes before theirs.
-- For `FitLemmas`.
-- By: where the least fault of positions is that of too many, none has another one, so each dataset
-- has its identifier and each element its type.
use Rattle.std.proofs.Common.{◌≡◌, ◌≤◌, ℕ, Bool, true, false, nat_lt, if◌then◌else◌}
use Rattle.std.proofs.Common.{List, [], ◌∷◌, ◌++◌, length, map, Option, Some, None, IfSome}
use Rattle.std.proofs.Common.{option_map, option_and_then, is_some, refl, ap, ◌∙◌, arith}
use Rattle.std.proofs.Common.{lit≤, subst, append_assoc}
use Rattle.std.specs.List.{list_all, filter_map, cons_option}
use Rattle.std.proofs.lemmas.Bool.{and_parts, ltb-true}
use Rattle.toml.specs.Data.{Data, string, integer, float}
use Rattle.toml.specs.Data.{boolean, datetime, array, table, Members, as_table}
use Rattle.trdp_dataset.specs.declared.element.Element.{Element}
use Rattle.trdp_dataset.specs.declared.fault.ConfigFault.{ConfigFault}
use Rattle.trdp_dataset.specs.declared.fault.ConfigFault.TheVariants.{Toml, Missing, WrongType}
use Rattle.trdp_dataset.specs.declared.fault.ConfigFault.TheVariants.{Real, BadId, TwiceId}
use Rattle.trdp_dataset.specs.declared.fault.ConfigFault.TheVariants.{NoDataset, NoCount, TooDeep}
use Rattle.trdp_dataset.specs.declared.fault.ConfigFault.TheVariants.{TooBig, TooMany, OutOfMemory}
use Rattle.trdp_dataset.specs.declared.key.Key.TheVariants.{Dataset, DatasetId}
use Rattle.trdp_dataset.specs.declared.key.Key.TheVariants.{Elements, ElementType}
use Rattle.trdp_dataset.specs.Keys.{dataset_keys, element_keys}
use Rattle.trdp_dataset.specs.Values.{items_in, is_table, is_tables, is_type, is_real}
use Rattle.trdp_dataset.specs.Values.{kind_in, identifier_in, is_integer}
use Rattle.trdp_dataset.specs.Datasets.{DatasetModel}
use Rattle.trdp_dataset.specs.Positions.{PositionModel, value_at, items_found, items_at, tables_in}
use Rattle.trdp_dataset.specs.Positions.{tables_at, positions_at, positions_of_all}
use Rattle.trdp_dataset.specs.Positions.{element_positions, dataset_positions}
use Rattle.trdp_dataset.specs.Faults.{fault_at, rank, least_of_two, least_fault, bad_unless}
use Rattle.trdp_dataset.specs.Faults.{count_fault}
use Rattle.trdp_dataset.specs.Configs.{element_of, element_in, elements_in, dataset_in, datasets_in}
use Rattle.trdp_dataset.specs.Misfits.{RowModel, element_from, row_in, file_rows}
use Rattle.trdp_dataset.proofs.LeastLemmas.{at_most}
use Rattle.trdp_dataset.proofs.SingleFaultLemmas.{IsLate}

-- there is no fault, or one that comes after those of datasets
abbrev pub IsLast : Option ConfigFault → Type 0
IsLast o = IfSome o (λ f. 11 ≤ rank f)

pub late_last : (o : Option ConfigFault) → IsLate o → IsLast o
late_last None late = tt
late_last (Some TooMany) late = lit≤ tt
late_last (Some Toml) late = cc
late_last (Some (Missing key)) late = cc
late_last (Some (WrongType key)) late = cc
late_last (Some Real) late = cc
late_last (Some BadId) late = cc
late_last (Some TwiceId) late = cc
late_last (Some (NoDataset id)) late = cc
late_last (Some NoCount) late = cc
late_last (Some TooDeep) late = cc
late_last (Some TooBig) late = cc
late_last (Some OutOfMemory) late = cc

-- each of these positions has none, or such a one
abbrev pub AreLast : List PositionModel → Type 0
AreLast [] = Unit {0}
AreLast (p ∷ positions) = IsLast (fault_at p) × AreLast positions

two_last : (a b : Option ConfigFault) → IsLast (least_of_two a b) → IsLast a × IsLast b
two_last None b h = (tt, h)
two_last (Some f) None h = (h, tt)
two_last (Some f) (Some g) h = by (nat_lt (rank g) (rank f)) refl h
  where
    by : (b : Bool) → nat_lt (rank g) (rank f) ≡ b → IsLast (if b then Some g else Some f)
        → (11 ≤ rank f) × (11 ≤ rank g)
    by true e k = let less = ltb-true (rank g) (rank f) e in (omega (arith, less, k), k)
    by false e k = let less = at_most (rank g) (rank f) e in (k, omega (arith, less, k))

pub all_last : (positions : List PositionModel)
    → IsLast (least_fault (map fault_at positions)) → AreLast positions
all_last [] h = tt
all_last (p ∷ positions) h =
    let parts = two_last (fault_at p) (least_fault (map fault_at positions)) h in
    (parts.0, all_last positions parts.1)

last_front : (xs ys : List PositionModel) → AreLast (xs ++ ys) → AreLast xs
last_front [] ys h = tt
last_front (p ∷ xs) ys h = (h.0, last_front xs ys h.1)

pub last_back : (xs ys : List PositionModel) → AreLast (xs ++ ys) → AreLast ys
last_back [] ys h = h
last_back (p ∷ xs) ys h = last_back xs ys h.1

id_by : (b c : Bool)
    → IsLast (if b then bad_unless c else Some (WrongType DatasetId)) → c ≡ true
id_by true true h = refl
id_by true false h = absurd (omega (arith, h))
id_by false c h = absurd (omega (arith, h))

-- a dataset has its identifier
id_there : (found : Option Data) → IsLast (fault_at (record { key = DatasetId; found = found }))
    → is_some (option_and_then identifier_in found) ≡ true
id_there None h = absurd (omega (arith, h))
id_there (Some d) h = id_by (is_integer d) (is_some (identifier_in d)) h

kind_by : (b c k : Bool) → IsLast
    (if b then (if c then Some Real else bad_unless k) else Some (WrongType ElementType)) → k ≡ true
kind_by true true k h = absurd (omega (arith, h))
kind_by true false true h = refl
kind_by true false false h = absurd (omega (arith, h))
kind_by false c k h = absurd (omega (arith, h))

-- an element has its type
kind_there : (found : Option Data) → IsLast (fault_at (record { key = ElementType; found = found }))
    → is_some (option_and_then kind_in found) ≡ true
kind_there None h = absurd (omega (arith, h))
kind_there (Some d) h = kind_by (is_type d) (is_real d) (is_some (kind_in d)) h

tables_by : (b : Bool) (o : Option ConfigFault)
    → IsLast (if b then o else Some (WrongType Elements)) → b ≡ true
tables_by true o h = refl
tables_by false o h = absurd (omega (arith, h))

items_tables : (d : Data) → is_tables d ≡ true → list_all is_table (items_in d) ≡ true
items_tables (string text) e = cc
items_tables (integer n) e = cc
items_tables (float x) e = cc
items_tables (boolean b) e = cc
items_tables (datetime t) e = cc
items_tables (array ds) e = e
items_tables (table ms) e = cc

-- its elements are tables
items_there : (found : Option Data) → IsLast (fault_at (record { key = Elements; found = found }))
    → list_all is_table (items_found found) ≡ true
items_there None h = absurd (omega (arith, h))
items_there (Some d) h = items_tables d (tables_by (is_tables d)
    (count_fault Elements 256 (length (items_in d))) h)

some_made : {A B : Type 0} → (f : A → B) (o : Option A)
    → is_some o ≡ true → is_some (option_map f o) ≡ true
some_made f None e = cc
some_made f (Some x) e = refl

element_there : (members : Members) → AreLast (positions_at element_keys members)
    → is_some (element_in members) ≡ true
unfolding element_in positions_at
element_there members h = some_made (element_of members)
    (option_and_then kind_in (value_at ElementType members))
    (kind_there (value_at ElementType members) h.0)

-- a dataset as a row that lacks nothing
abbrev pub full : DatasetModel → RowModel
full d = record { id = Some d.id; elements = map (λ e. Some e) d.elements }

items_full : (ds : List Data) → list_all is_table ds ≡ true
    → AreLast (positions_of_all element_keys (filter_map as_table ds))
    → map element_from ds ≡ map (λ (e : Element). Some e)
    (filter_map element_in (filter_map as_table ds))
unfolding positions_of_all
items_full [] e h = refl
items_full (d ∷ ds) e h =
    let parts = and_parts (is_table d) (list_all is_table ds) e in
    by (as_table d) refl parts.0 (λ last. items_full ds parts.1 last)
  where
    made : (o : Option Element) → is_some o ≡ true
        → map element_from ds
        ≡ map (λ (x : Element). Some x) (filter_map element_in (filter_map as_table ds))
        → o ∷ map element_from ds ≡ map (λ (x : Element). Some x)
        (cons_option o (filter_map element_in (filter_map as_table ds)))
    made None some later = cc
    made (Some x) some later = ap (λ es. Some x ∷ es) later

    by : (o : Option Members) → as_table d ≡ o → is_some (as_table d) ≡ true
        → (AreLast (positions_of_all element_keys (filter_map as_table ds))
        → map element_from ds
        ≡ map (λ (x : Element). Some x) (filter_map element_in (filter_map as_table ds)))
        → option_and_then element_in o ∷ map element_from ds ≡ map (λ (x : Element). Some x)
        (filter_map element_in (cons_option o (filter_map as_table ds)))
    by None f there later = cc
    by (Some ms) f there later =
        let own : AreLast (positions_of_all element_keys (ms ∷ filter_map as_table ds)) =
        subst (λ o. AreLast (positions_of_all element_keys
        (cons_option o (filter_map as_table ds)))) f h in
        made (element_in ms) (element_there ms (last_front (positions_at element_keys ms)
        (positions_of_all element_keys (filter_map as_table ds)) own))
        (later (last_back (positions_at element_keys ms)
        (positions_of_all element_keys (filter_map as_table ds)) own))

elements_by : (found : Option Data) → list_all is_table (items_found found) ≡ true
    → AreLast (positions_of_all element_keys (tables_in found))
    → map element_from (items_found found)
    ≡ map (λ (e : Element). Some e) (filter_map element_in (tables_in found))
elements_by None e h = refl
elements_by (Some d) e h = items_full (items_in d) e h

elements_full : (members : Members) → AreLast (positions_at dataset_keys members)
    → AreLast (positions_of_all element_keys (tables_at Elements members))
    → map element_from (items_at Elements members)
    ≡ map (λ (e : Element). Some e) (elements_in members)
unfolding elements_in positions_at tables_at items_at
elements_full members g h = elements_by (value_at Elements members)
    (items_there (value_at Elements members) g.1.0) h

id_full : (members : Members) → AreLast (positions_at dataset_keys members)
    → is_some (option_and_then identifier_in (value_at DatasetId members)) ≡ true
unfolding positions_at
id_full members g = id_there (value_at DatasetId members) g.0

tables_full : (ts : List Members)
    → AreLast (positions_of_all dataset_keys ts) → AreLast (element_positions ts)
    → map row_in ts ≡ map full (filter_map dataset_in ts)
unfolding positions_of_all element_positions dataset_in row_in
tables_full [] g h = refl
tables_full (t ∷ ts) g h =
    let own = last_front (positions_at dataset_keys t) (positions_of_all dataset_keys ts) g in
    let inner = last_front (positions_of_all element_keys (tables_at Elements t))
    (element_positions ts) h in
    let later = tables_full ts
    (last_back (positions_at dataset_keys t) (positions_of_all dataset_keys ts) g)
    (last_back (positions_of_all element_keys (tables_at Elements t)) (element_positions ts) h) in
    by (option_and_then identifier_in (value_at DatasetId t)) (id_full t own)
    (elements_full t own inner) later
  where
    by : (id : Option ℕ) → is_some id ≡ true
        → map element_from (items_at Elements t) ≡ map (λ (e : Element). Some e) (elements_in t)
        → map row_in ts ≡ map full (filter_map dataset_in ts)
        → record { id = id; elements = map element_from (items_at Elements t) } ∷ map row_in ts
        ≡ map full (cons_option (option_map (λ n. record { id = n; elements = elements_in t }) id)
        (filter_map dataset_in ts))
    by None some elements later = cc
    by (Some n) some elements later =
        ap (λ es. record { id = Some n; elements = es } ∷ map row_in ts) elements
        ∙ ap (λ rows. record {
          id = Some n;
          elements = map (λ (e : Element). Some e)
              (elements_in t);
        } ∷ rows) later

-- no dataset of the file lacks anything
pub rows_full : (top : Members) → AreLast (dataset_positions top)
    → file_rows top ≡ map full (datasets_in top)
unfolding datasets_in dataset_positions file_rows
rows_full top g =
    let ts = tables_at Dataset top in
    let parts = last_back (positions_at (Dataset ∷ []) top) (positions_of_all dataset_keys ts
    ++ element_positions ts) (subst AreLast (append_assoc (positions_at (Dataset ∷ []) top)
    (positions_of_all dataset_keys ts) (element_positions ts)) g) in
    tables_full ts (last_front (positions_of_all dataset_keys ts) (element_positions ts) parts)
    (last_back (positions_of_all dataset_keys ts) (element_positions ts) parts)
