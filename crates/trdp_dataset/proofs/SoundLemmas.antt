-- Datasets without a fault fit together.
-- For `load`.
-- By: a test that all datasets pass is passed by each that is looked up.
use Rattle.std.proofs.Common.{◌≡◌, ◌==◌, ◌&&◌, ◌||◌, ◌≤◌, ◌<◌, ℕ, zero, suc, Bool, true}
use Rattle.std.proofs.Common.{false, cond, not, nat_le, nat_lt, length, List, [], ◌∷◌}
use Rattle.std.proofs.Common.{◌++◌, Option, Some, None, option_map, if◌then◌else◌, refl}
use Rattle.std.proofs.Common.{sym, ap, ◌∙◌, eqb-true, eq-eqb, arith, inl, inr, ◌⊎◌}
use Rattle.std.specs.Prelude.{find, slice_get}
use Rattle.std.specs.List.{list_all, cons_option}
use Rattle.std.proofs.lemmas.Bool.{and_parts, leb-true, ltb-true}
use Rattle.trdp_dataset.specs.declared.element.Element.{Element}
use Rattle.trdp_dataset.specs.declared.element.Form.{Form}
use Rattle.trdp_dataset.specs.declared.element.Form.TheVariants.{Unsigned, Signed}
use Rattle.trdp_dataset.specs.declared.element.Form.TheVariants.{Time48, Time64, Nested}
use Rattle.trdp_dataset.specs.declared.fault.ConfigFault.TheVariants.{TwiceId, NoDataset}
use Rattle.trdp_dataset.specs.Elements.{form_of, nested_id}
use Rattle.trdp_dataset.specs.Datasets.{DatasetModel, dataset_by_id, elements_of}
use Rattle.trdp_dataset.specs.Datasets.{is_known, passes, all_pass, all_counted}
use Rattle.trdp_dataset.specs.Depths.{is_within}
use Rattle.trdp_dataset.specs.ZeroSizes.{zero_size}
use Rattle.trdp_dataset.specs.Faults.{has_twice, twice_id_in, nested_ids, no_dataset_in}
use Rattle.trdp_dataset.specs.Faults.{no_count_in, too_deep_in, too_big_in, fit_fault}
use Rattle.trdp_dataset.specs.Registries.{IsRegistry}
use Rattle.trdp_dataset.proofs.FaultLemmas.{none_first}
use Rattle.trdp_dataset.proofs.SizeLemmas.{unknown_size}
use Rattle.trdp_dataset.proofs.LoopLemmas.{each, all_made}
use Rattle.trdp_dataset.proofs.TwiceLemmas.{known-cons, or_true, false_right}
use Rattle.trdp_dataset.proofs.FilledLemmas.{is_filled}

found_by : (b : Bool) (d : DatasetModel) (rest : Option DatasetModel) (es : List Element)
    → option_map (λ (m : DatasetModel). m.elements) (cond b (Some d) rest) ≡ Some es
    → ((b ≡ true) × (d.elements ≡ es))
    ⊎ (option_map (λ (m : DatasetModel). m.elements) rest ≡ Some es)
found_by true d rest es e = inl (refl, cc)
found_by false d rest es e = inr e

-- a test that the elements of each dataset pass, at one of them
pub each_found : (test : List Element → Bool) (ds : List DatasetModel) (id : ℕ) (es : List Element)
    → each test ds ≡ true → elements_of ds id ≡ Some es → test es ≡ true
unfolding elements_of
each_found test [] id es all found = cc
each_found test (d ∷ ds) id es all found =
    let parts = and_parts (test d.elements) (each test ds) all in
    elim (found_by (id == d.id) d (dataset_by_id ds id) es found)
    [ inl h ↦ ap test (sym h.1) ∙ parts.0 | inr h ↦ each_found test ds id es parts.1 h ]

known_by : (b : Bool) (rest : Bool) → (b || rest) ≡ true → (b ≡ true) ⊎ (rest ≡ true)
known_by true rest e = inl refl
known_by false rest e = inr e

-- a test that the identifier of each dataset passes, at one of them
pub each_known : (test : ℕ → Bool) (ds : List DatasetModel) (id : ℕ)
    → list_all (λ (d : DatasetModel). test d.id) ds ≡ true → is_known ds id ≡ true → test id ≡ true
unfolding elements_of
each_known test [] id all known = cc
each_known test (d ∷ ds) id all known =
    let parts = and_parts (test d.id) (list_all (λ (m : DatasetModel). test m.id) ds) all in
    elim (known_by (id == d.id) (is_known ds id) (sym (known-cons d ds id) ∙ known))
    [ inl h ↦ ap test (eqb-true id d.id h) ∙ parts.0 | inr h ↦ each_known test ds id parts.1 h ]

none_mapped : {A B : Type 0} → (f : A → B) (o : Option A) → option_map f o ≡ None → o ≡ None
none_mapped f None e = refl
none_mapped f (Some x) e = cc

not_by : (b : Bool) (x : ℕ) (rest : Option ℕ)
    → cond (not b) (Some x) rest ≡ None → (b ≡ true) × (rest ≡ None)
not_by true x rest e = (refl, e)
not_by false x rest e = cc

-- no identifier that fails the test is among those nested in elements
pub nested_pass : (test : ℕ → Bool) (es : List Element)
    → find (λ id. not (test id)) (nested_ids es) ≡ None → all_pass test es ≡ true
nested_pass test [] e = refl
nested_pass test (e ∷ es) none = by (form_of e.kind) none (nested_pass test es)
  where
    by : (f : Form) → find (λ id. not (test id)) (cons_option (nested_id f) (nested_ids es)) ≡ None
        → (find (λ id. not (test id)) (nested_ids es) ≡ None → all_pass test es ≡ true)
        → (passes test f && all_pass test es) ≡ true
    by (Unsigned w) h rest = rest h
    by (Signed w) h rest = rest h
    by Time48 h rest = rest h
    by Time64 h rest = rest h
    by (Nested id) h rest =
        let parts = not_by (test id) id (find (λ n. not (test n)) (nested_ids es)) h in
        rw (parts.0, rest parts.1) refl

none_of_two : {X : Type 0} → (p : X → Bool) (xs ys : List X)
    → find p (xs ++ ys) ≡ None → (find p xs ≡ None) × (find p ys ≡ None)
none_of_two p [] ys e = (refl, e)
none_of_two p (x ∷ xs) ys e = by (p x) e (none_of_two p xs ys)
  where
    by : (b : Bool) → cond b (Some x) (find p (xs ++ ys)) ≡ None
        → (find p (xs ++ ys) ≡ None → (find p xs ≡ None) × (find p ys ≡ None))
        → (cond b (Some x) (find p xs) ≡ None) × (find p ys ≡ None)
    by true h rest = cc
    by false h rest = rest h

-- where each dataset nested anywhere passes, those of one dataset do
pub nested_known : (test : ℕ → Bool) (ds : List DatasetModel) (id : ℕ) (es : List Element)
    → find (λ n. not (test n)) (all_made nested_ids ds) ≡ None → elements_of ds id ≡ Some es
    → all_pass test es ≡ true
unfolding elements_of
nested_known test [] id es none found = cc
nested_known test (d ∷ ds) id es none found =
    let parts =
    none_of_two (λ n. not (test n)) (nested_ids d.elements) (all_made nested_ids ds) none in
    elim (found_by (id == d.id) d (dataset_by_id ds id) es found) [
      | inl h ↦ ap (all_pass test) (sym h.1) ∙ nested_pass test d.elements parts.0
      | inr h ↦ nested_known test ds id es parts.1 h
    ]

no_fault : {A : Type 0} → (b : Bool) (x : A) → (if b then None else Some x) ≡ None → b ≡ true
no_fault true x e = refl
no_fault false x e = cc

size_by : (registry : List DatasetModel) (id : ℕ) (b : Bool) → is_known registry id ≡ b
    → list_all (λ (d : DatasetModel). nat_le (zero_size registry d.id) 65388) registry ≡ true
    → zero_size registry id ≤ 65388
unfolding zero_size
size_by registry id true known all =
    leb-true _ _ (each_known (λ n. nat_le (zero_size registry n) 65388) registry id all known)
size_by registry id false unknown all = let none =
    unknown_size registry 5 id (sym unknown) in omega (arith, none)

-- the identifier at an index is known
id_known : (registry : List DatasetModel) (i id : ℕ)
    → option_map (λ (m : DatasetModel). m.id) (slice_get registry i) ≡ Some id
    → is_known registry id ≡ true
id_known [] i id at = cc
id_known (d ∷ ds) zero id at = let same : d.id ≡ id = cc in
    known-cons d ds id ∙ ap (λ b. b || is_known ds id) (eq-eqb id d.id (sym same))
id_known (d ∷ ds) (suc i) id at = known-cons d ds id
    ∙ (ap (λ b. (id == d.id) || b) (id_known ds i id at) ∙ or_true (id == d.id))

first_known : (d : DatasetModel) (ds : List DatasetModel) (i id : ℕ)
    → has_twice (d ∷ ds) ≡ false → d.id ≡ id
    → option_map (λ (m : DatasetModel). m.id) (slice_get ds i) ≡ Some id → ⊥
first_known d ds i id once same at =
    let known : is_known ds d.id ≡ true = ap (is_known ds) same ∙ id_known ds i id at in
    let twice : has_twice (d ∷ ds) ≡ true = ap (λ b. b || has_twice ds) known in
    let no : true ≡ false = sym twice ∙ once in cc

-- no two datasets have one identifier
apart : (registry : List DatasetModel) (i j id : ℕ) → has_twice registry ≡ false
    → option_map (λ (m : DatasetModel). m.id) (slice_get registry i) ≡ Some id
    → option_map (λ (m : DatasetModel). m.id) (slice_get registry j) ≡ Some id → i ≡ j
apart [] i j id once at there = cc
apart (d ∷ ds) zero zero id once at there = refl
apart (d ∷ ds) zero (suc j) id once at there = absurd (first_known d ds j id once (cc) there)
apart (d ∷ ds) (suc i) zero id once at there = absurd (first_known d ds i id once (cc) at)
apart (d ∷ ds) (suc i) (suc j) id once at there =
    ap suc (apart ds i j id (false_right (is_known ds d.id) (has_twice ds) once) at there)

filled_parts : (es : List Element) → is_filled es ≡ true → (0 < length es) × (length es ≤ 256)
filled_parts es e = let parts = and_parts (nat_lt 0 (length es)) (nat_le (length es) 256) e in
    (ltb-true 0 (length es) parts.0, leb-true (length es) 256 parts.1)

twice_by_test : (b : Bool) → (if b then Some TwiceId else None) ≡ None → b ≡ false
twice_by_test true e = cc
twice_by_test false e = refl

-- datasets without a fault are a registry
pub sound : (registry : List DatasetModel) → twice_id_in registry ≡ None → fit_fault registry ≡ None
    → length registry ≤ 256 → list_all (λ (m : DatasetModel). nat_le 31 m.id) registry ≡ true
    → list_all (λ (m : DatasetModel). is_filled m.elements) registry ≡ true → IsRegistry registry
unfolding twice_id_in no_dataset_in no_count_in too_deep_in too_big_in
sound registry once fits few above filled =
    let a = none_first (no_dataset_in registry) _ fits in
    let b = none_first (no_count_in registry) _ a.1 in
    let c = none_first (too_deep_in registry) _ b.1 in
    let d = none_first (too_big_in registry) _ c.1 in
    record {
      above = λ id known. leb-true 31 id (each_known (nat_le 31) registry id above known);
      apart = λ i j id at there.
          apart registry i j id (twice_by_test (has_twice registry) once) at there;
      few = few;
      filled =
          λ id es found. (filled_parts es (each_found is_filled registry id es filled found)).0;
      short = λ id es found. (filled_parts es (each_found is_filled registry id es filled found)).1;
      known = λ id es found. nested_known (is_known registry)
          registry id es (none_mapped (λ id. NoDataset id) _ a.0) found;
      counted =
          λ id es found. each_found (all_counted false) registry id es (no_fault _ _ b.0) found;
      deep = λ id known. each_known (is_within registry 5) registry id (no_fault _ _ c.0) known;
      sized = λ id. size_by registry id (is_known registry id) refl (no_fault _ _ d.0);
    }
