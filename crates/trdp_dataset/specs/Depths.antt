-- How deep datasets nest.
use Rattle.std.specs.Prelude.{ℕ, zero, suc, Bool, false, List, Option, Some, None}
use Rattle.trdp_dataset.specs.declared.element.Element.{Element}
use Rattle.trdp_dataset.specs.Datasets.{DatasetModel, elements_of, all_pass}

-- each dataset that is nested in the elements passes the test; a dataset that isn't there passes
-- none
abbrev pub elements_pass : (ℕ → Bool) → Option (List Element) → Bool
elements_pass test None = false
elements_pass test (Some es) = all_pass test es

-- a dataset is of at most that depth: 1 without nested datasets, else one more than the deepest of
-- them
-- rule: dataset.depth
unfoldable pub is_within : List DatasetModel → ℕ → ℕ → Bool
is_within registry zero id = false
is_within registry (suc depth) id =
    elements_pass (is_within registry depth) (elements_of registry id)
