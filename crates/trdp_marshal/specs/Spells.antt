-- Which bytes an item of a dataset is sent as.
use Rattle.std.specs.Prelude.{◌≡◌, ◌⊎◌, ◌≢◌, ◌<◌, ◌++◌, ℕ, zero, suc}
use Rattle.std.specs.Prelude.{List, [], ◌∷◌, Option, Some, length}
use Rattle.trdp_dataset.specs.declared.element.Form.{Form}
use Rattle.trdp_dataset.specs.declared.element.Form.TheVariants.{Unsigned, Signed}
use Rattle.trdp_dataset.specs.declared.element.Form.TheVariants.{Time48, Time64, Nested}
use Rattle.trdp_dataset.specs.declared.element.Element.{Element}
use Rattle.trdp_dataset.specs.Elements.{width_len, form_of}
use Rattle.trdp_dataset.specs.Datasets.{DatasetModel, elements_of}
use Rattle.trdp_dataset.specs.Limits.{value_limit}
use Rattle.trdp_marshal.specs.Items.{ItemModel, ItemModels, unsigned, signed, time48}
use Rattle.trdp_marshal.specs.Items.{time64, list, none, more, told_count, array_length}
use Rattle.trdp_marshal.specs.Numbers.{IsNumber, signed_number}

-- which bytes a value is sent as
abbrev pub Relation : Type 0 → Type 1
Relation A = A → List ℕ → Type 0

-- the bytes are some of the first kind and then some of the second
abbrev pub Joins : (List ℕ → Type 0) → (List ℕ → Type 0) → List ℕ → Type 0
Joins First Second bytes = (a : List ℕ) × (b : List ℕ) × First a × Second b × (bytes ≡ a ++ b)

-- an unsigned number in k bytes
abbrev pub SpellsUnsigned : ℕ → Relation ItemModel
SpellsUnsigned k (unsigned n) bytes = IsNumber k n bytes
SpellsUnsigned k _ bytes = ⊥

-- a number in k bytes, as two's complement
abbrev pub SpellsSigned : ℕ → Relation ItemModel
SpellsSigned k (signed z) bytes = (n : ℕ) × (z ≡ signed_number k n) × IsNumber k n bytes
SpellsSigned k _ bytes = ⊥

-- seconds in 4 bytes and ticks in 2
abbrev pub SpellsTime48 : Relation ItemModel
SpellsTime48 (time48 seconds ticks) bytes = Joins (IsNumber 4 seconds) (IsNumber 2 ticks) bytes
SpellsTime48 _ bytes = ⊥

-- seconds in 4 bytes and microseconds in 4
abbrev pub SpellsTime64 : Relation ItemModel
SpellsTime64 (time64 seconds micros) bytes = Joins (IsNumber 4 seconds) (IsNumber 4 micros) bytes
SpellsTime64 _ bytes = ⊥

-- one value of a type, where those of nested datasets are given
unfoldable pub SpellsForm : (ℕ → Relation ItemModel) → Form → Relation ItemModel
SpellsForm Nest (Unsigned w) item bytes = SpellsUnsigned (width_len w) item bytes
SpellsForm Nest (Signed w) item bytes = SpellsSigned (width_len w) item bytes
SpellsForm Nest Time48 item bytes = SpellsTime48 item bytes
SpellsForm Nest Time64 item bytes = SpellsTime64 item bytes
SpellsForm Nest (Nested id) item bytes = Nest id item bytes

-- exactly k values, one after the other
unfoldable pub SpellsRepeated : Relation ItemModel → ℕ → Relation ItemModels
SpellsRepeated Single zero none bytes = bytes ≡ []
SpellsRepeated Single zero (more item items) bytes = ⊥
SpellsRepeated Single (suc k) none bytes = ⊥
SpellsRepeated Single (suc k) (more item items) bytes =
    Joins (Single item) (SpellsRepeated Single k items) bytes

-- a list of exactly k values
unfoldable pub SpellsList : Relation ItemModel → ℕ → Relation ItemModel
SpellsList Single k (list items) bytes = SpellsRepeated Single k items bytes
SpellsList Single k _ bytes = ⊥

-- the entry of an element: one value at size 1, else a list
unfoldable pub SpellsEntry : Relation ItemModel → ℕ → ℕ → Relation ItemModel
SpellsEntry Single size count item bytes =
    ((size ≡ 1) × Single item bytes)
    ⊎ ((size ≢ 1) × SpellsList Single (array_length size count) item bytes)

-- the entries of elements, one of each, one after the other
unfoldable pub SpellsEntries : (Form → Relation ItemModel) → List Element → ℕ → Relation ItemModels
SpellsEntries Single [] count none bytes = bytes ≡ []
SpellsEntries Single [] count (more item items) bytes = ⊥
SpellsEntries Single (e ∷ es) count none bytes = ⊥
SpellsEntries Single (e ∷ es) count (more item items) bytes =
    Joins (SpellsEntry (Single (form_of e.kind)) e.size count item)
    (SpellsEntries Single es (told_count item) items) bytes

-- the list of the entries of a dataset's elements; an unknown dataset has no value
unfoldable pub SpellsElements : (Form → Relation ItemModel) → Option (List Element)
    → Relation ItemModel
SpellsElements Single (Some es) (list items) bytes = SpellsEntries Single es 0 items bytes
SpellsElements Single _ _ bytes = ⊥

-- a value of a dataset down to a depth, below which nothing has a value
unfoldable pub SpellsDataset : List DatasetModel → ℕ → ℕ → Relation ItemModel
SpellsDataset registry zero id item bytes = ⊥
SpellsDataset registry (suc depth) id item bytes =
    SpellsElements (SpellsForm (SpellsDataset registry depth)) (elements_of registry id) item bytes

-- the bytes of an item of a dataset, which nests no deeper than 5
unfoldable pub Spells : List DatasetModel → ℕ → Relation ItemModel
Spells registry id item bytes = SpellsDataset registry 5 id item bytes

-- the bytes are those of some item of the dataset
abbrev pub IsSpelled : List DatasetModel → ℕ → List ℕ → Type 0
IsSpelled registry id bytes = (item : ItemModel) × Spells registry id item bytes

-- a payload of the dataset: any bytes of dataset 0, else those of some item
abbrev pub Fits : List DatasetModel → ℕ → List ℕ → Type 0
Fits registry id bytes = (id ≡ 0) ⊎ IsSpelled registry id bytes

-- some bytes are those of the item
abbrev pub HasBytes : List DatasetModel → ℕ → ItemModel → Type 0
HasBytes registry id item = (bytes : List ℕ) × Spells registry id item bytes

-- the item has more bytes than one message carries
abbrev pub IsTooLong : List DatasetModel → ℕ → ItemModel → Type 0
IsTooLong registry id item =
    (bytes : List ℕ) × Spells registry id item bytes × (value_limit < length bytes)
