-- The value of a dataset whose numbers are all 0 and whose counted arrays are empty.
use Rattle.std.specs.Prelude.{ℕ, zero, suc, ◌==◌, pos, List, [], ◌∷◌, unwrap_or, if◌then◌else◌}
use Rattle.trdp_dataset.specs.declared.element.Form.{Form}
use Rattle.trdp_dataset.specs.declared.element.Form.TheVariants.{Unsigned, Signed}
use Rattle.trdp_dataset.specs.declared.element.Form.TheVariants.{Time48, Time64, Nested}
use Rattle.trdp_dataset.specs.declared.element.Element.{Element}
use Rattle.trdp_dataset.specs.Elements.{form_of}
use Rattle.trdp_dataset.specs.Datasets.{DatasetModel, elements_of}
use Rattle.trdp_marshal.specs.Items.{ItemModel, ItemModels, unsigned, signed}
use Rattle.trdp_marshal.specs.Items.{time48, time64, list, none, more}

-- one value, where those of nested datasets are given
unfoldable pub form_zero : (ℕ → ItemModel) → Form → ItemModel
form_zero nested (Unsigned w) = unsigned 0
form_zero nested (Signed w) = signed (pos 0)
form_zero nested Time48 = time48 0 0
form_zero nested Time64 = time64 0 0
form_zero nested (Nested id) = nested id

-- k times the same value
unfoldable pub copies : ℕ → ItemModel → ItemModels
copies zero item = none
copies (suc k) item = more item (copies k item)

-- the entry of an element: one value, or a list, which is empty at size 0
unfoldable pub entry_zero : ItemModel → ℕ → ItemModel
entry_zero item size = if size == 1 then item else list (copies size item)

-- the entries of elements, one of each
unfoldable pub entries_zero : (Form → ItemModel) → List Element → ItemModels
entries_zero value [] = none
entries_zero value (e ∷ es) =
    more (entry_zero (value (form_of e.kind)) e.size) (entries_zero value es)

-- the zero value of a dataset down to a depth
unfoldable pub dataset_zero : List DatasetModel → ℕ → ℕ → ItemModel
dataset_zero registry zero id = list none
dataset_zero registry (suc depth) id =
    list (entries_zero (form_zero (dataset_zero registry depth))
    (unwrap_or (elements_of registry id) []))

-- the zero value of a dataset, which nests no deeper than 5
-- rule: dataset.zero
unfoldable pub zero_of : List DatasetModel → ℕ → ItemModel
zero_of registry id = dataset_zero registry 5 id
