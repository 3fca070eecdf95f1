-- The laws of items and their bytes.
use Rattle.std.specs.Prelude.{◌≡◌, ◌↔◌, ℕ, List, Some, IsTrue, length, replicate}
use Rattle.trdp_dataset.specs.Datasets.{DatasetModel, is_known}
use Rattle.trdp_dataset.specs.Registries.{IsRegistry}
use Rattle.trdp_dataset.specs.ZeroSizes.{zero_size}
use Rattle.trdp_dataset.specs.FixedSizes.{fixed_size}
use Rattle.trdp_marshal.specs.Items.{ItemModel}
use Rattle.trdp_marshal.specs.Numbers.{IsBytes}
use Rattle.trdp_marshal.specs.Spells.{Spells, IsSpelled, Fits}
use Rattle.trdp_marshal.specs.Spelling.{spelling}
use Rattle.trdp_marshal.specs.Reading.{reading, is_fitting_in}
use Rattle.trdp_marshal.specs.Zero.{zero_of}

-- one item of a dataset is spelled by at most one list of bytes
abbrev pub OneSpelling : Type 0
OneSpelling = (registry : List DatasetModel) (id : ℕ) (item : ItemModel) (first second : List ℕ)
    → Spells registry id item first → Spells registry id item second → first ≡ second

-- one list of bytes is spelled by at most one item of a dataset
abbrev pub OneItem : Type 0
OneItem = (registry : List DatasetModel) (id : ℕ) (first second : ItemModel) (bytes : List ℕ)
    → Spells registry id first bytes → Spells registry id second bytes → first ≡ second

-- the bytes that spell an item are those that are computed
abbrev pub SpelledIsComputed : Type 0
SpelledIsComputed = (registry : List DatasetModel) (id : ℕ) (item : ItemModel) (bytes : List ℕ)
    → Spells registry id item bytes → spelling registry id item ≡ Some bytes

-- the bytes that are computed spell the item
abbrev pub ComputedIsSpelled : Type 0
ComputedIsSpelled = (registry : List DatasetModel) (id : ℕ) (item : ItemModel) (bytes : List ℕ)
    → spelling registry id item ≡ Some bytes → Spells registry id item bytes

-- the item that spells bytes is the one that is read
abbrev pub SpelledIsRead : Type 0
SpelledIsRead = (registry : List DatasetModel) (id : ℕ) (item : ItemModel) (bytes : List ℕ)
    → Spells registry id item bytes → reading registry id bytes ≡ Some item

-- the item that is read spells the bytes
abbrev pub ReadIsSpelled : Type 0
ReadIsSpelled = (registry : List DatasetModel) (id : ℕ) (item : ItemModel) (bytes : List ℕ)
    → IsBytes bytes → reading registry id bytes ≡ Some item → Spells registry id item bytes

-- the test of a payload says whether the bytes are one
abbrev pub FittingIsFit : Type 0
FittingIsFit = (registry : List DatasetModel) (id : ℕ) (bytes : List ℕ) → IsBytes bytes
    → IsTrue (is_fitting_in registry id bytes) ↔ Fits registry id bytes

-- a dataset of one length is spelled by the lists of that many bytes, and by no others
abbrev pub FixedIsLength : Type 0
FixedIsLength = (registry : List DatasetModel) (id size : ℕ) (bytes : List ℕ) → IsRegistry registry
    → fixed_size registry id ≡ Some size → IsBytes bytes
    → IsSpelled registry id bytes ↔ (length bytes ≡ size)

-- the zero value is spelled by as many zero bytes as the registry says
abbrev pub ZeroIsSpelled : Type 0
ZeroIsSpelled = (registry : List DatasetModel) (id : ℕ) → IsRegistry registry
    → IsTrue (is_known registry id)
    → Spells registry id (zero_of registry id) (replicate (zero_size registry id) 0)
