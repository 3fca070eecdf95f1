-- The item of a dataset at the front of bytes, and the bytes after it, computed.
use Rattle.std.specs.Prelude.{ℕ, zero, suc, Bool, ◌||◌, is_some, option_map, ◌==◌, List, []}
use Rattle.std.specs.Prelude.{◌∷◌, Option, Some, None, length, drop, nat_lt, if◌then◌else◌}
use Rattle.byteorder.specs.Endian.{big_number}
use Rattle.trdp_dataset.specs.declared.element.Form.{Form}
use Rattle.trdp_dataset.specs.declared.element.Form.TheVariants.{Unsigned, Signed}
use Rattle.trdp_dataset.specs.declared.element.Form.TheVariants.{Time48, Time64, Nested}
use Rattle.trdp_dataset.specs.declared.element.Element.{Element}
use Rattle.trdp_dataset.specs.Elements.{width_len, form_of}
use Rattle.trdp_dataset.specs.Datasets.{DatasetModel, elements_of}
use Rattle.trdp_marshal.specs.Items.{ItemModel, ItemModels, unsigned, signed, time48}
use Rattle.trdp_marshal.specs.Items.{time64, list, none, more, told_count, array_length}
use Rattle.trdp_marshal.specs.Numbers.{signed_number}
use Rattle.trdp_marshal.specs.Spelling.{◌>>=◌}

-- what is at the front of bytes, and the bytes after it
abbrev pub Reader : Type 0 → Type 0
Reader A = List ℕ → Option (A × List ℕ)

-- the number in the first k bytes, the highest first, if there are that many
-- rule: dataset.packed
unfoldable pub number_at : ℕ → Reader ℕ
number_at k bytes =
    if nat_lt (length bytes) k then None else Some (big_number k bytes, drop k bytes)

-- an unsigned number
unfoldable pub unsigned_at : ℕ → Reader ItemModel
unsigned_at k bytes = do
  n ← number_at k bytes
  Some (unsigned n.0, n.1)

-- a number as two's complement
unfoldable pub signed_at : ℕ → Reader ItemModel
signed_at k bytes = do
  n ← number_at k bytes
  Some (signed (signed_number k n.0), n.1)

-- seconds in 4 bytes and ticks in 2
unfoldable pub time48_at : Reader ItemModel
time48_at bytes = do
  seconds ← number_at 4 bytes
  ticks ← number_at 2 seconds.1
  Some (time48 seconds.0 ticks.0, ticks.1)

-- seconds in 4 bytes and microseconds in 4
unfoldable pub time64_at : Reader ItemModel
time64_at bytes = do
  seconds ← number_at 4 bytes
  micros ← number_at 4 seconds.1
  Some (time64 seconds.0 micros.0, micros.1)

-- one value of a type, where those of nested datasets are given
unfoldable pub form_at : (ℕ → Reader ItemModel) → Form → Reader ItemModel
form_at nested (Unsigned w) bytes = unsigned_at (width_len w) bytes
form_at nested (Signed w) bytes = signed_at (width_len w) bytes
form_at nested Time48 bytes = time48_at bytes
form_at nested Time64 bytes = time64_at bytes
form_at nested (Nested id) bytes = nested id bytes

-- k values, one after the other
unfoldable pub repeated_at : Reader ItemModel → ℕ → Reader ItemModels
repeated_at read zero bytes = Some (none, bytes)
repeated_at read (suc k) bytes = do
  t ← read bytes
  ts ← repeated_at read k t.1
  Some (more t.0 ts.0, ts.1)

-- a list of k values
unfoldable pub list_at : Reader ItemModel → ℕ → Reader ItemModel
list_at read k bytes = do
  ts ← repeated_at read k bytes
  Some (list ts.0, ts.1)

-- the entry of an element: one value, or a list
unfoldable pub element_at : Reader ItemModel → ℕ → ℕ → Reader ItemModel
element_at read size count bytes =
    if size == 1 then read bytes else list_at read (array_length size count) bytes

-- the entries of elements, one of each
unfoldable pub entries_at : (Form → Reader ItemModel) → List Element → ℕ → Reader ItemModels
entries_at read [] count bytes = Some (none, bytes)
entries_at read (e ∷ es) count bytes = do
  t ← element_at (read (form_of e.kind)) e.size count bytes
  ts ← entries_at read es (told_count t.0) t.1
  Some (more t.0 ts.0, ts.1)

-- the list of the entries of a dataset's elements
unfoldable pub elements_at : (Form → Reader ItemModel) → Option (List Element) → Reader ItemModel
elements_at read None bytes = None
elements_at read (Some es) bytes = do
  ts ← entries_at read es 0 bytes
  Some (list ts.0, ts.1)

-- a value of a dataset down to a depth
unfoldable pub dataset_at : List DatasetModel → ℕ → ℕ → Reader ItemModel
dataset_at registry zero id bytes = None
dataset_at registry (suc depth) id bytes =
    elements_at (form_at (dataset_at registry depth)) (elements_of registry id) bytes

-- the value, if no bytes are left over
-- rule: dataset.whole
abbrev pub whole : Option (ItemModel × List ℕ) → Option ItemModel
whole None = None
whole (Some (t, [])) = Some t
whole (Some (t, (b ∷ bs))) = None

-- the item of a dataset whose bytes these are, with none left over
unfoldable pub reading : List DatasetModel → ℕ → List ℕ → Option ItemModel
reading registry id bytes = whole (dataset_at registry 5 id bytes)

-- what is seen where no value is built: the number that counts the next entry's items, and the
-- bytes after the value
abbrev pub count_after : Option (ItemModel × List ℕ) → Option (ℕ × List ℕ)
count_after found = option_map (λ x. (told_count x.0, x.1)) found

-- the bytes after the values
abbrev pub skipped : {A : Type 0} → Option (A × List ℕ) → Option (List ℕ)
skipped found = option_map (λ x. x.1) found

-- whether bytes are a payload of the dataset: any are of dataset 0, else they are those of some
-- item
-- rule: dataset.any
abbrev pub is_fitting_in : List DatasetModel → ℕ → List ℕ → Bool
is_fitting_in registry id bytes = (id == 0) || is_some (reading registry id bytes)
