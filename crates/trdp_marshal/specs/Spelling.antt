-- The bytes of an item of a dataset, computed.
use Rattle.std.specs.Prelude.{ℕ, zero, suc, ◌-◌, ◌/◌, ◌^◌, ◌==◌, pos, negsuc, List, [], ◌∷◌}
use Rattle.std.specs.Prelude.{◌++◌, Option, Some, None, option_and_then, nat_lt, if◌then◌else◌}
use Rattle.byteorder.specs.Endian.{big_bytes}
use Rattle.trdp_dataset.specs.declared.element.Form.{Form}
use Rattle.trdp_dataset.specs.declared.element.Form.TheVariants.{Unsigned, Signed}
use Rattle.trdp_dataset.specs.declared.element.Form.TheVariants.{Time48, Time64, Nested}
use Rattle.trdp_dataset.specs.declared.element.Element.{Element}
use Rattle.trdp_dataset.specs.Elements.{width_len, form_of}
use Rattle.trdp_dataset.specs.Datasets.{DatasetModel, elements_of}
use Rattle.trdp_marshal.specs.Items.{ItemModel, ItemModels, unsigned, signed, time48}
use Rattle.trdp_marshal.specs.Items.{time64, list, none, more, told_count, array_length}

-- what a step makes of the result of the one before it
infixl 10 ◌>>=◌
abbrev pub ◌>>=◌ : {A B : Type 0} → Option A → (A → Option B) → Option B
o >>= f = option_and_then f o

-- both spellings, one after the other
abbrev pub joined : Option (List ℕ) → Option (List ℕ) → Option (List ℕ)
joined first second = do
  a ← first
  b ← second
  Some (a ++ b)

-- the bytes of what has bytes
abbrev pub Speller : Type 0 → Type 0
Speller A = A → Option (List ℕ)

-- a number in k bytes, the highest first, if it fits
unfoldable pub number_spelling : ℕ → ℕ → Option (List ℕ)
number_spelling k n = if nat_lt n (256 ^ k) then Some (big_bytes k n) else None

-- an unsigned number
unfoldable pub unsigned_spelling : ℕ → Speller ItemModel
unsigned_spelling k (unsigned n) = number_spelling k n
unsigned_spelling k _ = None

-- a number as two's complement: below half of all numbers that fit in k bytes, or at least minus
-- half
unfoldable pub signed_spelling : ℕ → Speller ItemModel
signed_spelling k (signed (pos n)) =
    if nat_lt n (256 ^ k / 2) then Some (big_bytes k n) else None
signed_spelling k (signed (negsuc n)) =
    if nat_lt n (256 ^ k / 2) then Some (big_bytes k (256 ^ k - 1 - n)) else None
signed_spelling k _ = None

-- seconds in 4 bytes and ticks in 2
unfoldable pub time48_spelling : Speller ItemModel
time48_spelling (time48 seconds ticks) =
    joined (number_spelling 4 seconds) (number_spelling 2 ticks)
time48_spelling _ = None

-- seconds in 4 bytes and microseconds in 4
unfoldable pub time64_spelling : Speller ItemModel
time64_spelling (time64 seconds micros) =
    joined (number_spelling 4 seconds) (number_spelling 4 micros)
time64_spelling _ = None

-- one value of a type, where those of nested datasets are given
unfoldable pub form_spelling : (ℕ → Speller ItemModel) → Form → Speller ItemModel
form_spelling nested (Unsigned w) t = unsigned_spelling (width_len w) t
form_spelling nested (Signed w) t = signed_spelling (width_len w) t
form_spelling nested Time48 t = time48_spelling t
form_spelling nested Time64 t = time64_spelling t
form_spelling nested (Nested id) t = nested id t

-- exactly k values, one after the other
unfoldable pub repeated_spelling : Speller ItemModel → ℕ → Speller ItemModels
repeated_spelling spell zero none = Some []
repeated_spelling spell zero (more t ts) = None
repeated_spelling spell (suc k) none = None
repeated_spelling spell (suc k) (more t ts) = joined (spell t) (repeated_spelling spell k ts)

-- a list of exactly k values
unfoldable pub list_spelling : Speller ItemModel → ℕ → Speller ItemModel
list_spelling spell k (list ts) = repeated_spelling spell k ts
list_spelling spell k _ = None

-- the entry of an element: one value, or a list
unfoldable pub entry_spelling : Speller ItemModel → ℕ → ℕ → Speller ItemModel
entry_spelling spell size count t =
    if size == 1 then spell t else list_spelling spell (array_length size count) t

-- the entries of elements, one of each
unfoldable pub entries_spelling : (Form → Speller ItemModel) → List Element → ℕ
    → Speller ItemModels
entries_spelling spell [] count none = Some []
entries_spelling spell [] count (more t ts) = None
entries_spelling spell (e ∷ es) count none = None
entries_spelling spell (e ∷ es) count (more t ts) =
    joined (entry_spelling (spell (form_of e.kind)) e.size count t)
    (entries_spelling spell es (told_count t) ts)

-- the list of the entries of these elements
unfoldable pub elements_spelling : (Form → Speller ItemModel) → Option (List Element)
    → Speller ItemModel
elements_spelling spell (Some es) (list ts) = entries_spelling spell es 0 ts
elements_spelling spell _ _ = None

-- a value of a dataset down to a depth
unfoldable pub dataset_spelling : List DatasetModel → ℕ → ℕ → Speller ItemModel
dataset_spelling registry zero id t = None
dataset_spelling registry (suc depth) id t =
    elements_spelling (form_spelling (dataset_spelling registry depth)) (elements_of registry id) t

-- the bytes of an item of a dataset, which nests no deeper than 5
-- rule: dataset.packed
unfoldable pub spelling : List DatasetModel → ℕ → Speller ItemModel
spelling registry id t = dataset_spelling registry 5 id t
