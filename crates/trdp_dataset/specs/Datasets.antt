-- Datasets, as contracts see them.
use Rattle.std.specs.Prelude.{◌==◌, ◌||◌, ◌&&◌, not, ℕ, Bool, true, List}
use Rattle.std.specs.Prelude.{[], ◌∷◌, Option, option_map, is_some, find}
use Rattle.trdp_dataset.specs.declared.element.Form.{Form}
use Rattle.trdp_dataset.specs.declared.element.Form.TheVariants.{Unsigned, Signed}
use Rattle.trdp_dataset.specs.declared.element.Form.TheVariants.{Time48, Time64, Nested}
use Rattle.trdp_dataset.specs.declared.element.Element.{Element}
use Rattle.trdp_dataset.specs.Elements.{form_of, is_count}

-- a dataset: its identifier and its elements in order
pub record DatasetModel : Type 0 where
  pub id : ℕ
  pub elements : List Element

-- the first dataset of that identifier
abbrev pub dataset_by_id : List DatasetModel → ℕ → Option DatasetModel
dataset_by_id registry id = find (λ d. id == d.id) registry

-- the elements of the dataset of that identifier
unfoldable pub elements_of : List DatasetModel → ℕ → Option (List Element)
elements_of registry id = option_map (λ d. d.elements) (dataset_by_id registry id)

-- some dataset has that identifier
abbrev pub is_known : List DatasetModel → ℕ → Bool
is_known registry id = is_some (elements_of registry id)

-- a test of the identifier of a nested dataset, which every other type passes
abbrev pub passes : (ℕ → Bool) → Form → Bool
passes test (Unsigned w) = true
passes test (Signed w) = true
passes test Time48 = true
passes test Time64 = true
passes test (Nested id) = test id

-- each dataset that is nested in these elements passes the test
abbrev pub all_pass : (ℕ → Bool) → List Element → Bool
all_pass test [] = true
all_pass test (e ∷ es) = passes test (form_of e.kind) && all_pass test es

-- each array of size 0 comes after an element that counts its items; the first element comes after
-- one if so said
-- rule: dataset.counted
abbrev pub all_counted : Bool → List Element → Bool
all_counted counted [] = true
all_counted counted (e ∷ es) = (not (e.size == 0) || counted) && all_counted (is_count e) es
