-- Values of datasets, apart from where they are in memory.
use Rattle.std.specs.Prelude.{ℕ, ℤ, ◌==◌, List, [], ◌∷◌, map, Option, Some, None, if◌then◌else◌}
use Rattle.trdp_marshal.specs.declared.item.Item.{Item, fold-Item}
use Rattle.trdp_marshal.specs.declared.item.Item.TheOpen.{Item-F}

mutual
  -- a number, a time, or a list of items
  pub data ItemModel : Type 0 where
    unsigned : ℕ → ItemModel
    signed : ℤ → ItemModel
    time48 : ℕ → ℕ → ItemModel
    time64 : ℕ → ℕ → ItemModel
    list : ItemModels → ItemModel

  -- items in order
  pub data ItemModels : Type 0 where
    none : ItemModels
    more : ItemModel → ItemModels → ItemModels

-- the items of a list, one after the other
abbrev pub models_of : List ItemModel → ItemModels
models_of [] = none
models_of (t ∷ ts) = more t (models_of ts)

-- one layer of an item
abbrev pub model_step : Item-F ItemModel → ItemModel
model_step (Item-F.U n) = unsigned n
model_step (Item-F.S z) = signed z
model_step (Item-F.T48 s t) = time48 s t
model_step (Item-F.T64 s t) = time64 s t
model_step (Item-F.List v) = list (models_of v.items)

-- what an item is, apart from where it is in memory
abbrev pub model_of : Item → ItemModel
model_of = fold-Item ItemModel model_step

-- the same of each of these items
abbrev pub models_in : List Item → ItemModels
models_in items = models_of (map model_of items)

-- how many items the array of size 0 after this one has: the number that it is
abbrev pub told_count : ItemModel → ℕ
told_count (unsigned n) = n
told_count (signed z) = 0
told_count (time48 s t) = 0
told_count (time64 s t) = 0
told_count (list ts) = 0

-- how many values an array has: its size, or for size 0 what the entry before it says
-- rule: dataset.array
abbrev pub array_length : ℕ → ℕ → ℕ
array_length size count = if size == 0 then count else size

-- the items of a list, where it is one
abbrev pub models_under : ItemModel → Option ItemModels
models_under (unsigned n) = None
models_under (signed z) = None
models_under (time48 s t) = None
models_under (time64 s t) = None
models_under (list ts) = Some ts
