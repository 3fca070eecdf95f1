-- How many bytes the values have whose numbers are all 0.
use Rattle.std.specs.Prelude.{ℕ, zero, suc, ◌+◌, ◌*◌, List, [], ◌∷◌, unwrap_or}
use Rattle.trdp_dataset.specs.declared.element.Form.{Form}
use Rattle.trdp_dataset.specs.declared.element.Form.TheVariants.{Unsigned, Signed}
use Rattle.trdp_dataset.specs.declared.element.Form.TheVariants.{Time48, Time64, Nested}
use Rattle.trdp_dataset.specs.declared.element.Element.{Element}
use Rattle.trdp_dataset.specs.Elements.{width_len, form_of}
use Rattle.trdp_dataset.specs.Datasets.{DatasetModel, elements_of}

-- one zero value, where those of nested datasets are given
unfoldable pub form_size : (ℕ → ℕ) → Form → ℕ
form_size nested (Unsigned w) = width_len w
form_size nested (Signed w) = width_len w
form_size nested Time48 = 6
form_size nested Time64 = 8
form_size nested (Nested id) = nested id

-- the zero values of elements, one after the other: an array of size 0 is empty there
unfoldable pub entries_size : (Form → ℕ) → List Element → ℕ
entries_size size [] = 0
entries_size size (e ∷ es) = e.size * size (form_of e.kind) + entries_size size es

-- the zero value of a dataset down to a depth, below which sizes are 0
unfoldable pub dataset_size : List DatasetModel → ℕ → ℕ → ℕ
dataset_size registry zero id = 0
dataset_size registry (suc depth) id =
    entries_size (form_size (dataset_size registry depth)) (unwrap_or (elements_of registry id) [])

-- the zero value of a dataset, which nests no deeper than 5
unfoldable pub zero_size : List DatasetModel → ℕ → ℕ
zero_size registry id = dataset_size registry 5 id
