-- What a file without a fault has at its positions.
-- For `load`, and for `SlotNumberLemmas`, `GroupLemmas` and `SoundLemmas`.
-- By: where a list of positions is without a fault, each part of it is.
use Rattle.std.proofs.Common.{◌≡◌, ◌==◌, ◌&&◌, ◌≤◌, ℕ, suc, Bool, true, false, nat_le}
use Rattle.std.proofs.Common.{nat_lt, List, [], ◌∷◌, ◌++◌, length, Option, Some, None}
use Rattle.std.proofs.Common.{option_map, option_and_then, is_some, is_none, if◌then◌else◌}
use Rattle.std.proofs.Common.{refl, sym, ap, ◌∙◌, arith, subst, append_assoc}
use Rattle.std.specs.List.{list_all, filter_map, cons_option}
use Rattle.std.proofs.lemmas.Bool.{and_parts, ltb-false, le-leb}
use Rattle.std.proofs.lemmas.List.{length-map}
use Rattle.std.proofs.lemmas.Bool.Decides.{nat_tests}
use Rattle.std.proofs.lemmas.List.Folds.{list_all-append}
use Rattle.toml.specs.Data.{Data, string, integer, float, boolean}
use Rattle.toml.specs.Data.{datetime, array, table, Members, as_table}
use Rattle.trdp_dataset.specs.declared.element.Element.{Element}
use Rattle.trdp_dataset.specs.declared.fault.ConfigFault.{ConfigFault}
use Rattle.trdp_dataset.specs.declared.fault.ConfigFault.TheVariants.{Missing, WrongType}
use Rattle.trdp_dataset.specs.declared.fault.ConfigFault.TheVariants.{Real, TooMany}
use Rattle.trdp_dataset.specs.declared.key.Key.{Key}
use Rattle.trdp_dataset.specs.declared.key.Key.TheVariants.{Node, Address, PdPort, MdPort}
use Rattle.trdp_dataset.specs.declared.key.Key.TheVariants.{OperatorPort, SpareControlPorts, Slot}
use Rattle.trdp_dataset.specs.declared.key.Key.TheVariants.{ControlAddress, Groups, Ttl}
use Rattle.trdp_dataset.specs.declared.key.Key.TheVariants.{Dataset, DatasetId, Elements}
use Rattle.trdp_dataset.specs.declared.key.Key.TheVariants.{ElementType, ElementSize}
use Rattle.trdp_dataset.specs.Keys.{wanted_by, is_required, dataset_keys, element_keys}
use Rattle.trdp_dataset.specs.Types.{identifier_of}
use Rattle.trdp_dataset.specs.Values.{items_list, items_in, is_table, is_tables, is_numbers}
use Rattle.trdp_dataset.specs.Values.{is_type, is_real, kind_in, identifier_in, natural_in}
use Rattle.trdp_dataset.specs.Values.{member_in}
use Rattle.trdp_dataset.specs.Datasets.{DatasetModel}
use Rattle.trdp_dataset.specs.Positions.{PositionModel, value_at, tables_in, tables_at}
use Rattle.trdp_dataset.specs.Positions.{position_at, positions_at, positions_of_all}
use Rattle.trdp_dataset.specs.Positions.{node_in, positions_of_node, node_positions}
use Rattle.trdp_dataset.specs.Positions.{element_positions, dataset_positions, slot_positions}
use Rattle.trdp_dataset.specs.Faults.{count_fault, tables_fault, numbers_fault, bad_unless}
use Rattle.trdp_dataset.specs.Faults.{fault_at}
use Rattle.trdp_dataset.specs.Configs.{element_of, element_in, elements_in}
use Rattle.trdp_dataset.specs.Configs.{dataset_in, datasets_in, slots_in, slot_config, numbers_of}
use Rattle.trdp_dataset.specs.Configs.{node_value, spare_control_ports_in}

-- there is no fault at these positions
abbrev pub AreGood : List PositionModel → Type 0
AreGood positions = list_all (λ p. is_none (fault_at p)) positions ≡ true

all_parts : {A : Type 0} → (test : A → Bool) (xs ys : List A)
    → list_all test (xs ++ ys) ≡ true → (list_all test xs ≡ true) × (list_all test ys ≡ true)
all_parts test xs ys e =
    and_parts (list_all test xs) (list_all test ys) (sym (list_all-append test xs ys) ∙ e)

pub good_front : (xs ys : List PositionModel) → AreGood (xs ++ ys) → AreGood xs
good_front xs ys g = (all_parts _ xs ys g).0

pub good_back : (xs ys : List PositionModel) → AreGood (xs ++ ys) → AreGood ys
good_back xs ys g = (all_parts _ xs ys g).1

none_there : {A : Type 0} → (o : Option A) → is_none o ≡ true → o ≡ None
none_there None e = refl
none_there (Some x) e = cc

-- the first of good positions
pub good_first : (p : PositionModel) (rest : List PositionModel)
    → AreGood (p ∷ rest) → fault_at p ≡ None
good_first p rest g = none_there (fault_at p) (and_parts _ _ g).0

-- the first table of an array that isn't empty
pub record FirstTable (found : Option Data) : Type 0 where
  pub first : Members
  pub rest : List Members
  pub tables : tables_in found ≡ first ∷ rest

first_of : (x : Data) (xs : List Data) → is_table x ≡ true
    → (ms : Members) × (rest : List Members) × (filter_map as_table (x ∷ xs) ≡ ms ∷ rest)
first_of (table ms) xs e = (ms, filter_map as_table xs, refl)
first_of (string s) xs e = cc
first_of (integer z) xs e = cc
first_of (float x) xs e = cc
first_of (boolean b) xs e = cc
first_of (datetime dt) xs e = cc
first_of (array ds) xs e = cc

first_in : (xs : List Data) → list_all is_table xs ≡ true → (length xs == 0) ≡ false
    → (ms : Members) × (rest : List Members) × (filter_map as_table xs ≡ ms ∷ rest)
first_in [] all some = cc
first_in (x ∷ xs) all some = first_of x xs (and_parts (is_table x) (list_all is_table xs) all).0

first_by : (d : Data)
    → is_tables d ≡ true → (length (items_in d) == 0) ≡ false → FirstTable (Some d)
first_by (array ds) tables some = let f = first_in (items_list ds) tables some in
    record { first = f.0; rest = f.1; tables = f.2 }
first_by (string s) tables some = cc
first_by (integer z) tables some = cc
first_by (float x) tables some = cc
first_by (boolean b) tables some = cc
first_by (datetime dt) tables some = cc
first_by (table ms) tables some = cc

kept_by : {A B : Type 0} → (f : A → Option B) (o : Option B) (rest : List B)
    → length (cons_option o rest) ≤ suc (length rest)
kept_by f None rest = omega arith
kept_by f (Some x) rest = omega arith

-- no more is made of a list than it has
pub kept : {A B : Type 0} → (f : A → Option B) (xs : List A) → length (filter_map f xs) ≤ length xs
kept f [] = omega arith
kept f (x ∷ xs) = let a = kept_by f (f x) (filter_map f xs) in let b = kept f xs in omega arith

-- an array whose number of members is no fault
pub uncounted : (key : Key) (b c : Bool)
    → (if b then Some (Missing key) else if c then Some TooMany else None) ≡ None
    → (b ≡ false) × (c ≡ false)
uncounted key true c e = cc
uncounted key false true e = cc
uncounted key false false e = (refl, refl)

-- an array whose members are no fault
pub tables_by : (key : Key) (b : Bool) (fault : Option ConfigFault)
    → (if b then fault else Some (WrongType key)) ≡ None → (b ≡ true) × (fault ≡ None)
tables_by key true fault e = (refl, e)
tables_by key false fault e = cc

-- what an array of tables without a fault has
record Counted (key : Key) (most : ℕ) (d : Data) : Type 0 where
  pub tables : is_tables d ≡ true
  pub some : (is_required key && (length (items_in d) == 0)) ≡ false
  pub few : length (tables_in (Some d)) ≤ most

counted : (key : Key) (most : ℕ) (d : Data) → tables_fault key most d ≡ None → Counted key most d
counted key most d e =
    let parts = tables_by key (is_tables d) (count_fault key most (length (items_in d))) e in
    let tests = uncounted key (is_required key && (length (items_in d) == 0))
    (nat_lt most (length (items_in d))) parts.1 in
    let few = ltb-false most (length (items_in d)) tests.1 in
    let fewer = kept as_table (items_in d) in
    record { tables = parts.0; some = tests.0; few = omega (arith, few, fewer) }

-- a required array without a fault
pub record IsFilled (most : ℕ) (found : Option Data) : Type 0 where
  pub table : FirstTable found
  pub few : length (tables_in found) ≤ most

slots_filled : (found : Option Data)
    → fault_at (record { key = Slot; found = found }) ≡ None → IsFilled 16 found
slots_filled None e = cc
slots_filled (Some d) e = let h = counted Slot 16 d e in
    record { table = first_by d h.tables h.some; few = h.few }

elements_filled : (found : Option Data)
    → fault_at (record { key = Elements; found = found }) ≡ None → IsFilled 256 found
elements_filled None e = cc
elements_filled (Some d) e = let h = counted Elements 256 d e in
    record { table = first_by d h.tables h.some; few = h.few }

datasets_few : (found : Option Data) → fault_at (record { key = Dataset; found = found }) ≡ None
    → length (tables_in found) ≤ 256
datasets_few None e = omega arith
datasets_few (Some d) e = (counted Dataset 256 d e).few

known_by : (b c k : Bool)
    → (if b then (if c then Some Real else bad_unless k) else Some (WrongType ElementType)) ≡ None
    → k ≡ true
known_by true true k e = cc
known_by true false true e = refl
known_by true false false e = cc
known_by false c k e = cc

made_by : (found : Option Data) → fault_at (record { key = ElementType; found = found }) ≡ None
    → is_some (option_and_then kind_in found) ≡ true
made_by None e = cc
made_by (Some t) e = known_by (is_type t) (is_real t) (is_some (kind_in t)) e

some_made : {A B : Type 0} → (f : A → B) (o : Option A)
    → is_some o ≡ true → is_some (option_map f o) ≡ true
some_made f None e = cc
some_made f (Some x) e = refl

-- a table with good positions is an element
element_made : (members : Members) → AreGood (positions_at element_keys members)
    → is_some (element_in members) ≡ true
unfolding element_in positions_at
element_made members g =
    some_made (element_of members) (option_and_then kind_in (value_at ElementType members))
    (made_by (value_at ElementType members)
    (good_first (position_at members ElementType) (position_at members ElementSize ∷ []) g))

length_made : {A : Type 0} → (o : Option A) (rest : List A)
    → is_some o ≡ true → nat_lt 0 (length (cons_option o rest)) ≡ true
length_made None rest e = cc
length_made (Some x) rest e = grind (arith, nat_tests)

-- a dataset has an element, and at most 256
abbrev pub is_filled : List Element → Bool
is_filled es = nat_lt 0 (length es) && nat_le (length es) 256

short_by : (ts : List Members) → length ts ≤ 256
    → nat_le (length (filter_map element_in ts)) 256 ≡ true
short_by ts few = let fewer = kept element_in ts in
    le-leb (length (filter_map element_in ts)) 256 (omega (arith, fewer, few))

-- a dataset with good positions is so
dataset_filled : (members : Members) → AreGood (positions_at dataset_keys members)
    → AreGood (positions_of_all element_keys (tables_at Elements members))
    → is_filled (elements_in members) ≡ true
unfolding elements_in positions_at positions_of_all tables_at
dataset_filled members g h =
    let own = good_first (position_at members Elements) [] (and_parts _ _ g).1 in
    let all = elements_filled (value_at Elements members) own in
    let f = all.table in
    let inner : AreGood (positions_of_all element_keys (f.first ∷ f.rest)) =
    subst (λ (ts : List Members). AreGood (positions_of_all element_keys ts)) f.tables h in
    let made = element_made f.first (good_front (positions_at element_keys f.first)
    (positions_of_all element_keys f.rest) inner) in
    let some = ap (λ ts. nat_lt 0 (length (filter_map element_in ts))) f.tables
    ∙ length_made (element_in f.first) (filter_map element_in f.rest) made in
    rw (some, short_by (tables_in (value_at Elements members)) all.few) refl

filled_by : (d : Members) (id : Option ℕ) (rest : List DatasetModel) → is_filled (elements_in d)
    ≡ true → list_all (λ (m : DatasetModel). is_filled m.elements) rest ≡ true
    → list_all (λ (m : DatasetModel). is_filled m.elements)
    (cons_option (option_map (λ n. record { id = n; elements = elements_in d }) id) rest) ≡ true
filled_by d None rest here later = later
filled_by d (Some n) rest here later = rw (here, later) refl

tables_filled : (ts : List Members)
    → AreGood (positions_of_all dataset_keys ts) → AreGood (element_positions ts)
    → list_all (λ (m : DatasetModel). is_filled m.elements) (filter_map dataset_in ts) ≡ true
unfolding positions_of_all element_positions dataset_in
tables_filled [] g h = refl
tables_filled (t ∷ ts) g h =
    let here = dataset_filled t
    (good_front (positions_at dataset_keys t) (positions_of_all dataset_keys ts) g) (good_front
    (positions_of_all element_keys (tables_at Elements t)) (element_positions ts) h) in
    let later = tables_filled ts
    (good_back (positions_at dataset_keys t) (positions_of_all dataset_keys ts) g) (good_back
    (positions_of_all element_keys (tables_at Elements t)) (element_positions ts) h) in
    filled_by t (option_and_then identifier_in (value_at DatasetId t))
    (filter_map dataset_in ts) here later

-- each dataset of a file with good positions has an element, and at most 256
pub all_filled : (top : Members) → AreGood (dataset_positions top)
    → list_all (λ (m : DatasetModel). is_filled m.elements) (datasets_in top) ≡ true
unfolding datasets_in dataset_positions
all_filled top g =
    let ts = tables_at Dataset top in
    let parts = good_back (positions_at (Dataset ∷ []) top) (positions_of_all dataset_keys ts
    ++ element_positions ts) (subst AreGood (append_assoc (positions_at (Dataset ∷ []) top)
    (positions_of_all dataset_keys ts) (element_positions ts)) g) in
    tables_filled ts (good_front (positions_of_all dataset_keys ts) (element_positions ts) parts)
    (good_back (positions_of_all dataset_keys ts) (element_positions ts) parts)

-- there are at most 256 datasets
pub all_few : (top : Members) → AreGood (dataset_positions top) → length (datasets_in top) ≤ 256
unfolding datasets_in dataset_positions positions_at tables_at
all_few top g =
    let few = datasets_few (value_at Dataset top) (none_there _ (and_parts _ _ g).0) in
    let fewer = kept dataset_in (tables_in (value_at Dataset top)) in
    omega (arith, few, fewer)

in_range_above : (low high n : ℕ) (b : Bool) (m : ℕ) → (nat_le low n && nat_le n high) ≡ b
    → (if b then Some n else None) ≡ Some m → nat_le low m ≡ true
in_range_above low high n true m e found = let same : n ≡ m = cc in
    ap (nat_le low) (sym same) ∙ (and_parts _ _ e).0
in_range_above low high n false m e found = cc

natural_above : (found : Option ℕ) (m : ℕ)
    → option_and_then identifier_of found ≡ Some m → nat_le 31 m ≡ true
natural_above None m e = cc
natural_above (Some n) m e =
    in_range_above 31 4294967295 n (nat_le 31 n && nat_le n 4294967295) m refl e

identifier_above : (found : Option Data) (m : ℕ)
    → option_and_then identifier_in found ≡ Some m → nat_le 31 m ≡ true
identifier_above None m e = cc
identifier_above (Some d) m e = natural_above (natural_in d) m e

above_by : (es : List Element) (id : Option ℕ) (rest : List DatasetModel)
    → ((m : ℕ) → id ≡ Some m → nat_le 31 m ≡ true)
    → list_all (λ (m : DatasetModel). nat_le 31 m.id) rest ≡ true
    → list_all (λ (m : DatasetModel). nat_le 31 m.id)
    (cons_option (option_map (λ n. record { id = n; elements = es }) id) rest) ≡ true
above_by es None rest here later = later
above_by es (Some n) rest here later = rw (here n refl, later) refl

tables_above : (ts : List Members)
    → list_all (λ (m : DatasetModel). nat_le 31 m.id) (filter_map dataset_in ts) ≡ true
unfolding dataset_in
tables_above [] = refl
tables_above (t ∷ ts) =
    above_by (elements_in t) (option_and_then identifier_in (value_at DatasetId t))
    (filter_map dataset_in ts) (identifier_above (value_at DatasetId t)) (tables_above ts)

-- each identifier is 31 or above
pub all_above : (top : Members)
    → list_all (λ (m : DatasetModel). nat_le 31 m.id) (datasets_in top) ≡ true
unfolding datasets_in
all_above top = tables_above (tables_at Dataset top)

-- there is a slot, and there are at most 16
pub some_slots : (top : Members) → AreGood (slot_positions top)
    → (1 ≤ length (slots_in top)) × (length (slots_in top) ≤ 16)
unfolding slots_in slot_positions positions_at tables_at
some_slots top g =
    let all = slots_filled (value_at Slot top) (none_there _ (and_parts _ _ g).0) in
    let same = length-map (tables_in (value_at Slot top)) slot_config in
    let some : 1 ≤ length (tables_in (value_at Slot top)) = rw all.table.tables (omega arith) in
    (omega (arith, some, same), omega (arith, all.few, same))

-- an array of numbers without a fault has no more of them than its key allows
numbers_few : (key : Key) (most least greatest : ℕ) (d : Data)
    → numbers_fault key most least greatest d ≡ None → length (items_in d) ≤ most
numbers_few key most least greatest d e =
    let parts = tables_by key (is_numbers least greatest d)
    (count_fault key most (length (items_in d))) e in
    let tests = uncounted key (is_required key && (length (items_in d) == 0))
    (nat_lt most (length (items_in d))) parts.1 in
    ltb-false most (length (items_in d)) tests.1

spare_few : (found : Option Data)
    → fault_at (record { key = SpareControlPorts; found = found }) ≡ None
    → length (numbers_of SpareControlPorts found) ≤ 15
unfolding numbers_of
spare_few None e = omega arith
spare_few (Some d) e =
    let few = numbers_few SpareControlPorts 15 0 65535 d e in
    let fewer = kept (member_in (wanted_by SpareControlPorts)) (items_in d) in
    omega (arith, few, fewer)

spare_by : (node : Option Members) → AreGood (positions_of_node node)
    → length (numbers_of SpareControlPorts (option_and_then (value_at SpareControlPorts) node)) ≤ 15
unfolding numbers_of positions_at
spare_by None g = omega arith
spare_by (Some node) g =
    let front = positions_at (Address ∷ PdPort ∷ MdPort ∷ OperatorPort ∷ []) node in
    let own = position_at node SpareControlPorts in
    let rest = positions_at (ControlAddress ∷ Groups ∷ Ttl ∷ []) node in
    spare_few (value_at SpareControlPorts node)
    (good_first own rest (good_back front (own ∷ rest) g))

-- there are at most 15 spare control ports
pub few_spare : (top : Members) → AreGood (node_positions top)
    → length (spare_control_ports_in top) ≤ 15
unfolding spare_control_ports_in node_value node_positions
few_spare top g = spare_by (node_in top)
    (good_back (positions_at (Node ∷ []) top) (positions_of_node (node_in top)) g)
