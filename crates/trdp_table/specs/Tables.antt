-- The table of objects: for each slot a list of objects by rising handle.
use Rattle.std.specs.Prelude.{◌≡◌, ℕ, ◌+◌, max, List, [], ◌∷◌, ◌++◌, map, flat_map, find, filter}
use Rattle.std.specs.Prelude.{count_by, sum_by, slice_index, slice_index_or}
use Rattle.std.specs.Prelude.{slice_set, Option, Some, None}
use Rattle.std.specs.Prelude.{◌==◌, nat_le, nat_lt, not, if◌then◌else◌}
use Rattle.trdp_model.specs.declared.any_object.AnyObject.{AnyObject}
use Rattle.trdp_model.specs.declared.kind.Kind.{Kind}
use Rattle.trdp_table.specs.declared.fault.TableFault.{TableFault}
use Rattle.trdp_table.specs.declared.fault.TableFault.TheVariants.{Quota, Exhausted}
use Rattle.trdp_model.specs.Kinds.{kind_index, kind_of, is_same_kind}

-- an object with its handle in its slot, its key in the table, and the kind that it was added
-- with, for whose quota it counts
pub record Keyed : Type 0 where
  pub handle : ℕ
  pub kind : Kind
  pub key : ℕ
  pub object : AnyObject

-- a slot: a quota for each kind of object, the next handle, and its objects by rising handle
pub record SlotTable : Type 0 where
  pub quotas : List ℕ
  pub next : ℕ
  pub objects : List Keyed

-- the slots by their numbers, from 0
abbrev pub TableState : Type 0
TableState = List SlotTable

-- the last handle of a slot
abbrev pub last_handle : ℕ
last_handle = 4294967295

-- an empty slot, whose first handle will be 1
abbrev pub opened_slot : List ℕ → SlotTable
opened_slot quotas = record { quotas = quotas; next = 1; objects = [] }

-- the slot of a number; where there is none, an empty one without quotas
abbrev pub slot_in : ℕ → TableState → SlotTable
slot_in s table = slice_index_or table s (opened_slot [])

-- all objects that the quotas allow together
abbrev pub all_quotas : List ℕ → ℕ
all_quotas quotas =
    slice_index quotas 0 + slice_index quotas 1 + slice_index quotas 2
    + slice_index quotas 3 + slice_index quotas 4 + slice_index quotas 5

-- all objects that the quotas of all slots allow together
abbrev pub room_of : TableState → ℕ
room_of table = sum_by (λ slot. all_quotas slot.quotas) table

-- the objects of all slots
abbrev pub all_objects : TableState → List Keyed
all_objects table = flat_map (λ slot. slot.objects) table

-- the object of a handle
abbrev pub by_handle : ℕ → List Keyed → Option Keyed
by_handle handle objects = find (λ keyed. keyed.handle == handle) objects

-- the object of a key
abbrev pub by_key : ℕ → List Keyed → Option Keyed
by_key key objects = find (λ keyed. keyed.key == key) objects

-- how many objects count for the quota of a kind
abbrev pub count_of : Kind → List Keyed → ℕ
count_of kind objects = count_by (λ keyed. is_same_kind keyed.kind kind) objects

-- why a slot takes no further object of a kind
abbrev pub refusal : SlotTable → Kind → Option TableFault
refusal slot kind =
    if nat_le (slice_index slot.quotas (kind_index kind)) (count_of kind slot.objects)
    then Some Quota
    else if nat_lt last_handle slot.next then Some Exhausted else None

-- a new object counts for its own kind
abbrev pub new_object : ℕ → ℕ → AnyObject → Keyed
new_object handle key object =
    record { handle = handle; kind = kind_of object; key = key; object = object }

-- a slot with a new object, the last, under the next handle
-- rule: slot.handle
abbrev pub with_object : ℕ → AnyObject → SlotTable → SlotTable
with_object key object slot =
    record slot {
      next = slot.next + 1;
      objects = slot.objects ++ new_object slot.next key object ∷ [];
    }

-- a slot without the object of a handle
-- rule: slot.handle
abbrev pub without_handle : ℕ → SlotTable → SlotTable
without_handle handle slot =
    record slot { objects = filter (λ keyed. not (keyed.handle == handle)) slot.objects }

-- a slot without objects, whose next handle stays
abbrev pub without_objects : SlotTable → SlotTable
without_objects slot = record slot { objects = [] }

-- a slot whose next handle is at least this
abbrev pub with_next : ℕ → SlotTable → SlotTable
with_next next slot = record slot { next = max slot.next next }

-- the table with one slot changed
-- rule: slot.alone
abbrev pub changed_at : ℕ → (SlotTable → SlotTable) → TableState → TableState
changed_at s change table = slice_set table s (change (slot_in s table))

-- an object was added in a slot: it has a key that no object had, and all else stays
pub record Adds (s : ℕ) (object : AnyObject) (old new : TableState) : Type 0 where
  pub key : ℕ
  pub fresh : by_key key (all_objects old) ≡ None
  pub table : new ≡ changed_at s (with_object key object) old

-- an object under its handle, key and kind, become another one if it is that of the key
abbrev pub other_by_key : ℕ → AnyObject → Keyed → Keyed
other_by_key key object keyed = if keyed.key == key then record keyed { object = object } else keyed

-- a slot whose object of the key, if it has one, became another one
abbrev pub with_other_by_key : ℕ → AnyObject → SlotTable → SlotTable
with_other_by_key key object slot =
    record slot { objects = map (other_by_key key object) slot.objects }

-- the table once the object of a key became another one, under the same handle, key and kind
abbrev pub exchanged : ℕ → TableState → AnyObject → TableState
exchanged key table object = map (with_other_by_key key object) table

-- an object under its handle, key and kind, become another one if it is that of the handle
abbrev pub other_by_handle : ℕ → AnyObject → Keyed → Keyed
other_by_handle handle object keyed =
    if keyed.handle == handle then record keyed { object = object } else keyed

-- a slot whose object of a handle, if it has one, became another one
abbrev pub with_other_by_handle : ℕ → AnyObject → SlotTable → SlotTable
with_other_by_handle handle object slot =
    record slot { objects = map (other_by_handle handle object) slot.objects }
