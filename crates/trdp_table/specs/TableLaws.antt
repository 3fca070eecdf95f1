-- What is true of every table: its handles rise, its objects are within their quotas, and no two
-- objects have the same key.
use Rattle.std.specs.Prelude.{◌==◌, ℕ, ◌<◌, ◌≤◌, List, [], ◌∷◌, length, map, slice_index, IsSome}
use Rattle.std.specs.List.{IsDistinct}
use Rattle.trdp_base.specs.QuotaLimits.{quota_limit}
use Rattle.trdp_model.specs.declared.kind.Kind.{Kind}
use Rattle.trdp_model.specs.Kinds.{kind_index}
use Rattle.trdp_table.specs.Tables.{Keyed, SlotTable, TableState}
use Rattle.trdp_model.specs.Slots.{slot_limit}
use Rattle.trdp_table.specs.Tables.{slot_in, count_of, all_objects, by_key, room_of}

-- each handle is above h
abbrev pub AllAbove : ℕ → List Keyed → Type 0
AllAbove h [] = Unit {0}
AllAbove h (keyed ∷ others) = (h < keyed.handle) × AllAbove h others

-- each handle is below h
abbrev pub AllBelow : ℕ → List Keyed → Type 0
AllBelow h [] = Unit {0}
AllBelow h (keyed ∷ others) = (keyed.handle < h) × AllBelow h others

-- the handles rise
abbrev pub HandlesRise : List Keyed → Type 0
HandlesRise [] = Unit {0}
HandlesRise (keyed ∷ others) = AllAbove keyed.handle others × HandlesRise others

-- no quota is above the limit
abbrev pub AreLimited : List ℕ → Type 0
AreLimited quotas = (kind : Kind) → slice_index quotas (kind_index kind) ≤ quota_limit

-- the most objects of a slot: 256 of each of six kinds
abbrev pub object_limit : ℕ
object_limit = 1536

-- a slot's handles rise and are below the next one, and its objects are within their quotas
pub record IsSlotTable (slot : SlotTable) : Type 0 where
  pub handles : slot.next ≤ 4294967296
  pub rising : HandlesRise slot.objects
  pub below : AllBelow slot.next slot.objects
  pub limited : AreLimited slot.quotas
  pub full : (kind : Kind)
      → count_of kind slot.objects ≤ slice_index slot.quotas (kind_index kind)

-- a table is of at most sixteen slots, and each key belongs to one object and is below the room
pub record IsTable (table : TableState) : Type 0 where
  pub few : length table ≤ slot_limit
  pub slots : (s : ℕ) → IsSlotTable (slot_in s table)
  pub objects : (s : ℕ) → length (slot_in s table).objects ≤ object_limit
  pub keys : IsDistinct (λ a b. a == b) (map (λ keyed. keyed.key) (all_objects table))
  pub below : (key : ℕ) → IsSome (by_key key (all_objects table)) → key < room_of table
