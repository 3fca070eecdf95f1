-- What holds of the datasets of every configuration.
use Rattle.std.specs.Prelude.{◌≡◌, ◌<◌, ◌≤◌, length, ℕ, true, false}
use Rattle.std.specs.Prelude.{List, Some, option_map, slice_get}
use Rattle.trdp_dataset.specs.declared.element.Element.{Element}
use Rattle.trdp_dataset.specs.Datasets.{DatasetModel, elements_of, is_known, all_pass, all_counted}
use Rattle.trdp_dataset.specs.Depths.{is_within}
use Rattle.trdp_dataset.specs.Limits.{value_limit}
use Rattle.trdp_dataset.specs.ZeroSizes.{zero_size}

-- Identifiers are 31 and above, and no two are the same. There are at most 256 datasets, and each
-- has 1 to 256 elements. Each dataset that is nested in one is there. Each array of size 0 comes
-- after its count. No dataset is of a depth above 5, and each zero value has at most 65388 bytes.
-- rule: dataset.limit
pub record IsRegistry (registry : List DatasetModel) : Type 0 where
  pub above : (id : ℕ) → is_known registry id ≡ true → 31 ≤ id
  pub apart : (i j id : ℕ) → option_map (λ d. d.id) (slice_get registry i) ≡ Some id
      → option_map (λ d. d.id) (slice_get registry j) ≡ Some id → i ≡ j
  pub few : length registry ≤ 256
  pub filled : (id : ℕ) (es : List Element) → elements_of registry id ≡ Some es → 0 < length es
  pub short : (id : ℕ) (es : List Element) → elements_of registry id ≡ Some es → length es ≤ 256
  pub known : (id : ℕ) (es : List Element) → elements_of registry id ≡ Some es
      → all_pass (is_known registry) es ≡ true
  pub counted : (id : ℕ) (es : List Element) → elements_of registry id ≡ Some es
      → all_counted false es ≡ true
  pub deep : (id : ℕ) → is_known registry id ≡ true → is_within registry 5 id ≡ true
  pub sized : (id : ℕ) → zero_size registry id ≤ value_limit
