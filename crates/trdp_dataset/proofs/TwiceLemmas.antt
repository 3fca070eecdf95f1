-- Datasets with one identifier.
-- For `datasets_in`, and for `GroupLemmas` and `SoundLemmas`.
-- By: each turn adds a dataset whose identifier is new, or stops at one that was there.
use Rattle.std.proofs.Common.{◌≡◌, ◌==◌, ◌||◌, ℕ, Bool, true, false, cond, List, [], ◌∷◌}
use Rattle.std.proofs.Common.{◌++◌, Option, Some, None, option_map, if◌then◌else◌, refl}
use Rattle.std.proofs.Common.{sym, ap, ◌∙◌, is_some, eqb-true, eq-eqb, append_assoc}
use Rattle.std.proofs.Common.{◌+◌, ◌<◌, length, get_or, drop, option_and_then}
use Rattle.std.specs.List.{cons_option, filter_map}
use Rattle.std.proofs.lemmas.List.{at_drop_more}
use Rattle.toml.specs.Data.{Members, as_table}
use Rattle.toml.specs.View.{view}
use Rattle.toml.specs.declared.value.Value.{Value}
use Rattle.trdp_dataset.specs.Seen.{tables_seen}
use Rattle.trdp_dataset.specs.Configs.{dataset_in}
use Rattle.trdp_dataset.specs.declared.fault.ConfigFault.{ConfigFault}
use Rattle.trdp_dataset.specs.declared.fault.ConfigFault.TheVariants.{TwiceId}
use Rattle.trdp_dataset.specs.Datasets.{DatasetModel, dataset_by_id, elements_of, is_known}
use Rattle.trdp_dataset.specs.Faults.{has_twice, twice_id_in, IsFaultOf}
use Rattle.trdp_dataset.proofs.FaultLemmas.{fault_moves}
use Rattle.trdp_dataset.specs.Adding.{AddsDataset, twice_fault}

known_by : (b : Bool) (d : DatasetModel) (rest : Option DatasetModel)
    → is_some (cond b (Some d) rest) ≡ (b || is_some rest)
known_by true d rest = refl
known_by false d rest = refl

found_known : (registry : List DatasetModel) (id : ℕ)
    → is_known registry id ≡ is_some (dataset_by_id registry id)
unfolding elements_of
found_known registry id = by (dataset_by_id registry id)
  where
    by : (o : Option DatasetModel)
        → is_some (option_map (λ (d : DatasetModel). d.elements) o) ≡ is_some o
    by None = refl
    by (Some d) = refl

pub known-cons : (d : DatasetModel) (ds : List DatasetModel) (id : ℕ)
    → is_known (d ∷ ds) id ≡ ((id == d.id) || is_known ds id)
known-cons d ds id = found_known (d ∷ ds) id ∙ (known_by (id == d.id) d (dataset_by_id ds id)
    ∙ ap (λ b. (id == d.id) || b) (sym (found_known ds id)))

or_assoc : (a b c : Bool) → (a || (b || c)) ≡ ((a || b) || c)
or_assoc true b c = refl
or_assoc false b c = refl

pub known-append : (ds es : List DatasetModel) (id : ℕ)
    → is_known (ds ++ es) id ≡ (is_known ds id || is_known es id)
known-append [] es id = ap (λ b. b || is_known es id) (sym (found_known [] id))
known-append (d ∷ ds) es id = known-cons d (ds ++ es) id
    ∙ (ap (λ b. (id == d.id) || b) (known-append ds es id) ∙ (or_assoc (id == d.id) (is_known ds id)
    (is_known es id) ∙ ap (λ b. b || is_known es id) (sym (known-cons d ds id))))

pub or_true : (a : Bool) → (a || true) ≡ true
or_true true = refl
or_true false = refl

or_left : (a b : Bool) → a ≡ true → (a || b) ≡ true
or_left a b e = rw e refl

or_right : (a b : Bool) → b ≡ true → (a || b) ≡ true
or_right a b e = rw e (or_true a)

-- a dataset whose identifier an earlier one has
twice_by : (b : Bool) (x d : DatasetModel) (xs rest : List DatasetModel) → (d.id == x.id) ≡ b
    → is_known (x ∷ xs) d.id ≡ true → (is_known xs d.id ≡ true → has_twice (xs ++ d ∷ rest) ≡ true)
    → (is_known (xs ++ d ∷ rest) x.id || has_twice (xs ++ d ∷ rest)) ≡ true
twice_by true x d xs rest same known later =
    let here : d.id ≡ x.id = eqb-true d.id x.id same in
    let own : is_known (d ∷ rest) x.id ≡ true = known-cons d rest x.id
    ∙ or_left (x.id == d.id) (is_known rest x.id) (eq-eqb x.id d.id (sym here)) in
    or_left _ _ (known-append xs (d ∷ rest) x.id ∙ or_right _ _ own)
twice_by false x d xs rest other known later =
    let there : is_known xs d.id ≡ true = ap (λ b. b || is_known xs d.id) (sym other)
    ∙ (sym (known-cons x xs d.id) ∙ known) in
    or_right _ _ (later there)

pub twice_found : (xs : List DatasetModel) (d : DatasetModel) (rest : List DatasetModel)
    → is_known xs d.id ≡ true → has_twice (xs ++ d ∷ rest) ≡ true
unfolding elements_of
twice_found [] d rest known = cc
twice_found (x ∷ xs) d rest known =
    twice_by (d.id == x.id) x d xs rest refl known (λ later. twice_found xs d rest later)

or_false : (a b : Bool) → a ≡ false → b ≡ false → (a || b) ≡ false
or_false a b e f = rw (e, f) refl

-- of two tests of which neither passes, the first
pub false_left : (a b : Bool) → (a || b) ≡ false → a ≡ false
false_left true b e = cc
false_left false b e = refl

-- of two tests of which neither passes, the second
pub false_right : (a b : Bool) → (a || b) ≡ false → b ≡ false
false_right true b e = cc
false_right false b e = e

test_turned : (m n : ℕ) (b : Bool) → (m == n) ≡ b → (n == m) ≡ b
test_turned m n true e = eq-eqb n m (sym (eqb-true m n e))
test_turned m n false e = by (n == m) refl
  where
    by : (v : Bool) → (n == m) ≡ v → (n == m) ≡ false
    by true f = let g : (m == n) ≡ true = eq-eqb m n (sym (eqb-true n m f)) in cc
    by false f = f

-- a dataset with a new identifier
pub twice_kept : (xs : List DatasetModel) (d : DatasetModel)
    → has_twice xs ≡ false → is_known xs d.id ≡ false → has_twice (xs ++ d ∷ []) ≡ false
unfolding elements_of
twice_kept [] d once new = refl
twice_kept (x ∷ xs) d once new =
    let parts = sym (known-cons x xs d.id) ∙ new in
    let other : (x.id == d.id) ≡ false =
    test_turned d.id x.id false (false_left (d.id == x.id) (is_known xs d.id) parts) in
    let alone : is_known (d ∷ []) x.id ≡ false = known-cons d [] x.id
    ∙ or_false (x.id == d.id) (is_known [] x.id) other refl in
    or_false _ _ (known-append xs (d ∷ []) x.id
    ∙ or_false _ _ (false_left (is_known xs x.id) (has_twice xs) once) alone)
    (twice_kept xs d (false_right (is_known xs x.id) (has_twice xs) once)
    (false_right (d.id == x.id) (is_known xs d.id) parts))

-- what is left of the members before one, and after it
pub next_dataset : (xs : List Value) (i : ℕ) (x : Value) → i < length xs → x ≡ get_or xs i x
    → filter_map dataset_in (tables_seen (drop i xs))
    ≡ cons_option (option_and_then dataset_in (as_table (view x)))
    (filter_map dataset_in (tables_seen (drop (i + 1) xs)))
next_dataset xs i x inside item =
    at_drop_more (λ ys. filter_map dataset_in (tables_seen ys)) xs i x inside
    ∙ (ap (λ y. filter_map dataset_in (tables_seen (y ∷ drop (i + 1) xs))) (sym item)
    ∙ by (as_table (view x)))
  where
    by : (o : Option Members)
        → filter_map dataset_in (cons_option o (tables_seen (drop (i + 1) xs))) ≡ cons_option
        (option_and_then dataset_in o) (filter_map dataset_in (tables_seen (drop (i + 1) xs)))
    by None = refl
    by (Some ms) = refl

-- one turn: the datasets so far stay of different identifiers, and the rest is still to come
pub taken_up :
    (old new : List DatasetModel) (o : Option DatasetModel) (rest all : List DatasetModel)
    → has_twice old ≡ false → AddsDataset old new o → old ++ cons_option o rest ≡ all
    → (has_twice new ≡ false) × (new ++ rest ≡ all)
taken_up old new None rest all once added e = (rw added once, rw added e)
taken_up old new (Some d) rest all once added e = (
  ap has_twice added.1 ∙ twice_kept old d once added.0,
  ap (λ ds. ds ++ rest) added.1
      ∙ (append_assoc old (d ∷ []) rest ∙ e),
)

twice_by_test : (old : List DatasetModel) (d : DatasetModel) (rest : List DatasetModel) (b : Bool)
    (f : ConfigFault) → is_known old d.id ≡ b → (if b then Some TwiceId else None) ≡ Some f
    → twice_id_in (old ++ d ∷ rest) ≡ Some f
unfolding twice_id_in
twice_by_test old d rest true f known e =
    ap (λ b. if b then Some TwiceId else None) (twice_found old d rest known) ∙ e
twice_by_test old d rest false f known e = cc

-- a dataset whose identifier was there
pub taken_twice : (old : List DatasetModel) (o : Option DatasetModel) (rest all : List DatasetModel)
    (fault : ConfigFault) → old ++ cons_option o rest ≡ all → IsFaultOf fault (twice_fault old o)
    → IsFaultOf fault (twice_id_in all)
taken_twice old None rest all fault e h = fault_moves fault None (twice_id_in all) (λ f none. cc) h
taken_twice old (Some d) rest all fault e h =
    fault_moves fault (twice_fault old (Some d)) (twice_id_in all) (λ f twice.
    sym (ap twice_id_in e) ∙ twice_by_test old d rest (is_known old d.id) f refl twice) h
