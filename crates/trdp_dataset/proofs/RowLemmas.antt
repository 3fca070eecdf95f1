-- Lists that have a value for each dataset, in order.
-- For `too_deep`, `passes` and the `one_deeper` of depths, sizes and lengths.
-- By: a turn of the loop adds the value of the dataset that comes next.
use Rattle.std.proofs.Common.{◌≡◌, ℕ, zero, suc, ◌+◌, Bool, true, false, not, if◌then◌else◌}
use Rattle.std.proofs.Common.{List, [], ◌∷◌, ◌++◌, length, take, map, replicate, Option}
use Rattle.std.proofs.Common.{Some, None, option_map, refl, sym, ap, ◌∙◌}
use Rattle.std.specs.Prelude.{slice_get}
use Rattle.std.specs.List.{list_all}
use Rattle.std.proofs.lemmas.List.{map-append, take_more}
use Rattle.std.proofs.lemmas.List.Folds.{list_all-map}
use Rattle.std.proofs.lemmas.Option.{get_or_from_slice_get, slice_get_within}
use Rattle.trdp_dataset.specs.declared.fault.ConfigFault.TheVariants.{TooDeep}
use Rattle.trdp_dataset.specs.Datasets.{DatasetModel, elements_of, is_known}
use Rattle.trdp_dataset.specs.Depths.{is_within, elements_pass}
use Rattle.trdp_dataset.proofs.LookupLemmas.{none_found}

-- a dataset that isn't there is of no depth
pub unknown_within : (registry : List DatasetModel) (depth id : ℕ)
    → false ≡ is_known registry id → false ≡ is_within registry depth id
unfolding is_within
unknown_within registry zero id unknown = refl
unknown_within registry (suc depth) id unknown = sym (ap (elements_pass (is_within registry depth))
    (none_found (elements_of registry id) (sym unknown)))

taken_by : (ds : List DatasetModel) (i id : ℕ) (o : Option DatasetModel)
    → slice_get ds i ≡ o → option_map (λ (d : DatasetModel). d.id) o ≡ Some id
    → (d : DatasetModel) × (d.id ≡ id) × (take (i + 1) ds ≡ take i ds ++ d ∷ [])
taken_by ds i id None at h = cc
taken_by ds i id (Some d) at h = (
  d,
  cc,
  take_more ds i d (slice_get_within ds i d at)
      ∙ ap (λ x. take i ds ++ x ∷ []) (get_or_from_slice_get ds i d d at),
)

-- one more value
pub row_turn : {B : Type 0}
    → (f : ℕ → B) (ds : List DatasetModel) (i id : ℕ) (b : B) (now after : List B)
    → option_map (λ (d : DatasetModel). d.id) (slice_get ds i) ≡ Some id → b ≡ f id
    → now ≡ map (λ (d : DatasetModel). f d.id) (take i ds)
    → after ≡ now ++ b ∷ [] → after ≡ map (λ (d : DatasetModel). f d.id) (take (i + 1) ds)
row_turn f ds i id b now after at value so_far pushed =
    let t = taken_by ds i id (slice_get ds i) refl at in
    let g = λ (d : DatasetModel). f d.id in
    pushed ∙ (ap (λ xs. xs ++ b ∷ []) so_far ∙ (ap (λ x. map g (take i ds) ++ x ∷ []) (value
    ∙ ap f (sym t.1)) ∙ (sym (map-append g (take i ds) (t.0 ∷ [])) ∙ ap (map g) (sym t.2))))

-- at depth 0 there is none
pub none_within : (registry ds : List DatasetModel)
    → replicate (length ds) false ≡ map (λ (d : DatasetModel). is_within registry 0 d.id) ds
unfolding is_within
none_within registry [] = refl
none_within registry (d ∷ ds) = ap (λ xs. false ∷ xs) (none_within registry ds)

-- each value is true where each dataset passes
pub all_of_row : (f : ℕ → Bool) (ds : List DatasetModel) (row : List Bool)
    → row ≡ map (λ (d : DatasetModel). f d.id) ds
    → list_all (λ b. b) row ≡ list_all (λ (d : DatasetModel). f d.id) ds
all_of_row f ds row e = ap (list_all (λ b. b)) e
    ∙ list_all-map (λ b. b) (λ (d : DatasetModel). f d.id) ds

-- the fault where not all of them pass
pub deep_shown : (b : Bool) (all : Bool) → b ≡ all
    → (if all then None else Some TooDeep) ≡ (if not b then Some TooDeep else None)
deep_shown true all e = rw (← e) refl
deep_shown false all e = rw (← e) refl
