-- Sums of sizes, where every size above a bound is replaced by the bound.
-- For `form_size`, `entries_size`, `zero_sizes` and `small_sizes`.
-- By: whatever is added to or multiplied with the bound stays the bound.
use Rattle.std.proofs.Common.{◌≡◌, ℕ, zero, suc, ◌+◌, ◌*◌, ◌<◌, ◌≤◌, ◌&&◌, nat_le, if◌then◌else◌}
use Rattle.std.proofs.Common.{Bool, true, false, List, [], ◌∷◌, length, drop, get_or, map}
use Rattle.std.proofs.Common.{replicate, Some, None, refl, sym, ap, ◌∙◌, arith, inl, inr, ◌⊎◌}
use Rattle.std.proofs.Common.{lit<}
use Rattle.std.specs.Prelude.{min, unwrap_or}
use Rattle.std.specs.List.{list_all}
use Rattle.std.proofs.lemmas.Bool.{and_parts}
use Rattle.std.proofs.lemmas.Bool.Decides.{nat_tests}
use Rattle.std.proofs.lemmas.Bool.{leb-true}
use Rattle.trdp_dataset.specs.declared.fault.ConfigFault.TheVariants.{TooBig}
use Rattle.trdp_dataset.specs.Faults.{too_big_in}
use Rattle.std.proofs.lemmas.List.{at_drop_more, at_drop_all}
use Rattle.std.proofs.lemmas.Bool.{cases_lt}
use Rattle.trdp_dataset.specs.declared.element.Element.{Element}
use Rattle.trdp_dataset.specs.declared.element.Form.{Form}
use Rattle.trdp_dataset.specs.Elements.{form_of}
use Rattle.trdp_dataset.specs.Datasets.{DatasetModel, elements_of, is_known}
use Rattle.trdp_dataset.specs.ZeroSizes.{form_size, entries_size, dataset_size, zero_size}
use Rattle.trdp_dataset.specs.Limits.{size_cap}
use Rattle.trdp_dataset.specs.Stored.{size_row, zero_sizes_of}
use Rattle.trdp_dataset.proofs.LookupLemmas.{none_found}

-- a product stays above the bound
capped_by : (t c x bound rest : ℕ) → (x < bound) ⊎ (bound ≤ x)
    → min (min (t + c * min x bound) bound + rest) bound ≡ min (t + (c * x + rest)) bound
capped_by t c x bound rest (inl below) = let same : min x bound ≡ x =
    omega arith in rw same (omega arith)
capped_by t zero x bound rest (inr above) = let one : 0 * min x bound ≡ 0 = omega arith in
    let other : 0 * x ≡ 0 = omega arith in rw (one, other) (omega arith)
capped_by t (suc c) x bound rest (inr above) =
    let same : min x bound ≡ bound = omega arith in
    let one : suc c * bound ≡ c * bound + bound = omega arith in
    let other : suc c * x ≡ c * x + x = omega arith in
    rw (same, one, other) (omega arith)

pub capped : (t c x bound rest : ℕ)
    → min (min (t + c * min x bound) bound + rest) bound ≡ min (t + (c * x + rest)) bound
capped t c x bound rest = capped_by t c x bound rest (cases_lt x bound)

-- one more element is counted
pub size_turn :
    (size : Form → ℕ) (es : List Element) (i : ℕ) (d : Element) (total now s bound all : ℕ)
    → i < length es → s ≡ min (size (form_of (get_or es i d).kind)) bound
    → now ≡ min (total + (get_or es i d).size * s) bound
    → min (total + entries_size size (drop i es)) bound ≡ all
    → min (now + entries_size size (drop (i + 1) es)) bound ≡ all
unfolding entries_size
size_turn size es i d total now s bound all inside one sum so_far =
    let e = get_or es i d in
    let rest = entries_size size (drop (i + 1) es) in
    let here : entries_size size (drop i es) ≡ e.size * size (form_of e.kind) + rest =
    at_drop_more (entries_size size) es i d inside in
    ap (λ n. min (n + rest) bound) (sum ∙ ap (λ n. min (total + e.size * n) bound) one)
    ∙ (capped total e.size (size (form_of e.kind)) bound rest
    ∙ (ap (λ n. min (total + n) bound) (sym here) ∙ so_far))

-- all elements are counted
pub size_end : (size : Form → ℕ) (es : List Element) (i total bound all : ℕ) → length es ≤ i
    → total ≤ bound → min (total + entries_size size (drop i es)) bound ≡ all → total ≡ all
unfolding entries_size
size_end size es i total bound all past below so_far =
    let none : entries_size size (drop i es) ≡ 0 = at_drop_all (entries_size size) es i past in
    let same : total ≡ min (total + 0) bound = omega arith in
    same ∙ (ap (λ n. min (total + n) bound) (sym none) ∙ so_far)

-- a dataset that isn't there counts nothing
pub unknown_size : (registry : List DatasetModel) (depth id : ℕ)
    → false ≡ is_known registry id → dataset_size registry depth id ≡ 0
unfolding dataset_size entries_size
unknown_size registry zero id unknown = refl
unknown_size registry (suc depth) id unknown =
    ap (λ o. entries_size (form_size (dataset_size registry depth)) (unwrap_or o []))
    (none_found (elements_of registry id) (sym unknown))

pub no_size_row : (registry ds : List DatasetModel) → replicate (length ds) 0
    ≡ map (λ (d : DatasetModel). min (dataset_size registry 0 d.id) size_cap) ds
unfolding dataset_size
no_size_row registry [] = refl
no_size_row registry (d ∷ ds) = ap (λ xs. 0 ∷ xs) (no_size_row registry ds)

small_by : (x bound cap : ℕ) → bound < cap → (x < cap) ⊎ (cap ≤ x)
    → nat_le (min x cap) bound ≡ nat_le x bound
small_by x bound cap room (inl below) = let same : min x cap ≡ x = omega arith in
    ap (λ n. nat_le n bound) same
small_by x bound cap room (inr above) = let same : min x cap ≡ cap =
    omega arith in grind (arith, nat_tests)

-- a size is small enough where what is counted of it is
pub small_tested : (x bound cap : ℕ) → bound < cap → nat_le (min x cap) bound ≡ nat_le x bound
small_tested x bound cap room = small_by x bound cap room (cases_lt x cap)

-- more is counted than a zero value may have
pub countable : 65388 < size_cap
countable = lit< tt

small_kept : (x bound cap : ℕ) → bound < cap → nat_le x bound ≡ true → min x cap ≡ x
small_kept x bound cap room small = let below : x ≤ bound = leb-true x bound small in omega arith

small_list : (registry ds : List DatasetModel) → list_all (λ n. nat_le n 65388)
    (map (λ (d : DatasetModel). min (dataset_size registry 5 d.id) size_cap) ds)
    ≡ list_all (λ (d : DatasetModel). nat_le (zero_size registry d.id) 65388) ds
unfolding zero_size
small_list registry [] = refl
small_list registry (d ∷ ds) =
    ap (λ b. b && list_all (λ n. nat_le n 65388)
    (map (λ (m : DatasetModel). min (dataset_size registry 5 m.id) size_cap) ds))
    (small_tested (dataset_size registry 5 d.id) 65388 size_cap countable)
    ∙ ap (λ b. nat_le (dataset_size registry 5 d.id) 65388 && b) (small_list registry ds)

-- each size is small enough where each zero value is
pub all_small : (registry : List DatasetModel) (sizes : List ℕ)
    → sizes ≡ size_row registry 5 → list_all (λ n. nat_le n 65388) sizes
    ≡ list_all (λ (d : DatasetModel). nat_le (zero_size registry d.id) 65388) registry
all_small registry sizes e = ap (list_all (λ n. nat_le n 65388)) e ∙ small_list registry registry

exact_list : (registry ds : List DatasetModel)
    → list_all (λ (d : DatasetModel). nat_le (zero_size registry d.id) 65388) ds ≡ true
    → map (λ (d : DatasetModel). min (dataset_size registry 5 d.id) size_cap) ds
    ≡ map (λ (d : DatasetModel). zero_size registry d.id) ds
unfolding zero_size
exact_list registry [] small = refl
exact_list registry (d ∷ ds) small =
    let parts = and_parts (nat_le (dataset_size registry 5 d.id) 65388)
    (list_all (λ (m : DatasetModel). nat_le (dataset_size registry 5 m.id) 65388) ds) small in
    ap (λ n. n ∷ map (λ (m : DatasetModel). min (dataset_size registry 5 m.id) size_cap) ds)
    (small_kept (dataset_size registry 5 d.id) 65388 size_cap countable parts.0)
    ∙ ap (λ ns. dataset_size registry 5 d.id ∷ ns) (exact_list registry ds parts.1)

-- the sizes are those of the zero values where all are small
pub exact_sizes : (registry : List DatasetModel) (sizes : List ℕ) (b : Bool)
    → sizes ≡ size_row registry 5 → b ≡ list_all (λ n. nat_le n 65388) sizes
    → b ≡ true → sizes ≡ zero_sizes_of registry
exact_sizes registry sizes b e small passed = e
    ∙ exact_list registry registry (sym (all_small registry sizes e) ∙ (sym small ∙ passed))

-- the fault where not all are small
pub big_shown : (registry : List DatasetModel) (sizes : List ℕ) (b : Bool)
    → sizes ≡ size_row registry 5 → b ≡ list_all (λ n. nat_le n 65388) sizes
    → too_big_in registry ≡ (if b then None else Some TooBig)
unfolding too_big_in
big_shown registry sizes b e small =
    ap (λ v. if v then None else Some TooBig) (sym (all_small registry sizes e) ∙ sym small)

-- a product and then a sum that are counted up to a bound
pub sum_capped : (t x bound : ℕ) → min (t + min x bound) bound ≡ min (t + x) bound
sum_capped t x bound = by (cases_lt x bound)
  where
    by : (x < bound) ⊎ (bound ≤ x) → min (t + min x bound) bound ≡ min (t + x) bound
    by (inl below) = let same : min x bound ≡ x = omega arith in rw same refl
    by (inr above) = let same : min x bound ≡ bound = omega arith in rw same (omega arith)
