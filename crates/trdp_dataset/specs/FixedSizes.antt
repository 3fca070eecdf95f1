-- How many bytes each value of a dataset has, where all of them have one length.
use Rattle.std.specs.Prelude.{ℕ, zero, suc, ◌==◌, ◌&&◌, not, Bool, true, false}
use Rattle.std.specs.Prelude.{List, [], ◌∷◌, map, Option, Some, None, if◌then◌else◌}
use Rattle.trdp_dataset.specs.declared.element.Element.{Element}
use Rattle.trdp_dataset.specs.Elements.{form_of}
use Rattle.trdp_dataset.specs.Datasets.{DatasetModel, elements_of, passes}
use Rattle.trdp_dataset.specs.ZeroSizes.{zero_size}

-- no element is an array of size 0, and each dataset that is nested in one passes the test
abbrev pub all_fixed : (ℕ → Bool) → List Element → Bool
all_fixed test [] = true
all_fixed test (e ∷ es) = (not (e.size == 0) && passes test (form_of e.kind)) && all_fixed test es

-- the same of the elements of a dataset; one that isn't there has no values
abbrev pub elements_fixed : (ℕ → Bool) → Option (List Element) → Bool
elements_fixed test None = false
elements_fixed test (Some es) = all_fixed test es

-- no array of size 0 is in a dataset or in those that are nested in it, down to a depth
unfoldable pub is_fixed : List DatasetModel → ℕ → ℕ → Bool
is_fixed registry zero id = false
is_fixed registry (suc depth) id =
    elements_fixed (is_fixed registry depth) (elements_of registry id)

-- how many bytes each value of a dataset has, which nests no deeper than 5: without an array of
-- size 0 as many as the zero value
unfoldable pub fixed_size : List DatasetModel → ℕ → Option ℕ
fixed_size registry id = if is_fixed registry 5 id then Some (zero_size registry id) else None

-- whether each dataset is without an array of size 0 down to a depth, in order
abbrev pub fixed_row : List DatasetModel → ℕ → List Bool
fixed_row registry depth = map (λ d. is_fixed registry depth d.id) registry
