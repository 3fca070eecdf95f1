-- Of each dataset whether its values have one length.
-- For `fixed_datasets`, `form_fixed` and `Registry::fixed_size`.
-- By a row for each depth, which has an entry for each dataset in order (`LookupLemmas`).
use Rattle.std.proofs.Common.{◌≡◌, ℕ, zero, suc, Bool, true, false, List, [], ◌∷◌, length}
use Rattle.std.proofs.Common.{get_or, map, replicate, Some, None, option_map, refl, sym, ap, ◌∙◌}
use Rattle.std.specs.Prelude.{slice_get}
use Rattle.std.proofs.lemmas.Option.{get_or_from_slice_get}
use Rattle.trdp_dataset.specs.Datasets.{DatasetModel, elements_of, is_known}
use Rattle.trdp_dataset.specs.FixedSizes.{elements_fixed, is_fixed, fixed_size, fixed_row}
use Rattle.trdp_dataset.specs.ZeroSizes.{zero_size}
use Rattle.trdp_dataset.proofs.LookupLemmas.{none_found, value_found}

-- a dataset that isn't there has no values
pub unknown_fixed : (registry : List DatasetModel) (depth id : ℕ) → false ≡ is_known registry id
    → false ≡ is_fixed registry depth id
unfolding is_fixed
unknown_fixed registry zero id unknown = refl
unknown_fixed registry (suc depth) id unknown =
    sym (ap (elements_fixed (is_fixed registry depth))
    (none_found (elements_of registry id) (sym unknown)))

-- at depth 0 there are none
pub none_fixed : (registry ds : List DatasetModel)
    → replicate (length ds) false ≡ map (λ (d : DatasetModel). is_fixed registry 0 d.id) ds
unfolding is_fixed
none_fixed registry [] = refl
none_fixed registry (d ∷ ds) = ap (λ xs. false ∷ xs) (none_fixed registry ds)

-- what is stored for an identifier is whether its dataset is of one length
pub fixed_found : (registry : List DatasetModel) (fixed : List Bool) (id i : ℕ) (b : Bool)
    → fixed ≡ fixed_row registry 5
    → option_map (λ (d : DatasetModel). d.id) (slice_get registry i) ≡ Some id
    → b ≡ get_or fixed i b
    → b ≡ is_fixed registry 5 id
fixed_found registry fixed id i b stored at is =
    is ∙ (ap (λ (row : List Bool). get_or row i b) stored
    ∙ get_or_from_slice_get (fixed_row registry 5)
    i (is_fixed registry 5 id) b (value_found registry (is_fixed registry 5) id i at))

pub fixed_when : (registry : List DatasetModel) (id : ℕ) → is_fixed registry 5 id ≡ true
    → fixed_size registry id ≡ Some (zero_size registry id)
unfolding fixed_size
fixed_when registry id e = rw e refl

pub fixed_unless : (registry : List DatasetModel) (id : ℕ) → is_fixed registry 5 id ≡ false
    → fixed_size registry id ≡ None
unfolding fixed_size
fixed_unless registry id e = rw e refl
