-- How a table keeps its objects: the lists of the slots name keys, and the pool holds under each of
-- them the object.
use Rattle.std.specs.Prelude.{◌≡◌, ℕ, ◌≤◌, List, length, map, sum_by, Option, Some, None}
use Rattle.trdp_model.specs.declared.any_object.AnyObject.{AnyObject}
use Rattle.trdp_model.specs.declared.any_object.AnyObject.TheVariants.{Requester}
use Rattle.trdp_table.specs.declared.entry.Entry.{Entry}
use Rattle.trdp_table.specs.declared.held.Held.{Held}
use Rattle.trdp_table.specs.Tables.{Keyed, SlotTable, TableState, all_quotas}
use Rattle.trdp_model.specs.Slots.{slot_limit}
use Rattle.trdp_table.specs.Entries.{SlotEntries, AreSlotEntries, entries_in, key_of}
use Rattle.trdp_table.specs.Pools.{PoolState, held_in, owner_in, held_count}

-- in place of the object of a key that has none; no slot names such a key
abbrev pub no_object : AnyObject
no_object = Requester (record {
  terms = record {
    com_id = 0;
    reply_com_id = 0;
    reply_ip = record { 0 = 0 };
    topo = record { etb = 0; op_trn = 0 };
    to = record { ip = record { 0 = 0 }; port = 0 };
  };
  counter = 0;
})

abbrev pub object_or_none : Option Held → AnyObject
object_or_none None = no_object
object_or_none (Some held) = held.object

-- an entry with the object that the pool holds under its key
abbrev pub keyed_of : PoolState → Entry → Keyed
keyed_of pool entry = record {
  handle = entry.handle;
  kind = entry.kind;
  key = entry.key;
  object = object_or_none (held_in pool entry.key);
}

abbrev pub slot_seen : PoolState → SlotEntries → SlotTable
slot_seen pool slot =
    record { quotas = slot.quotas; next = slot.next; objects = map (keyed_of pool) slot.entries }

abbrev pub table_seen : PoolState → List SlotEntries → TableState
table_seen pool slots = map (slot_seen pool) slots

-- the slots' lists name exactly the keys that the pool holds, and the pool holds under each key the
-- slot and the handle that name it; it has as many keys as all quotas allow
pub record IsKeptTable (slots : List SlotEntries) (pool : PoolState) : Type 0 where
  pub few : length slots ≤ slot_limit
  pub sound : (s : ℕ) → AreSlotEntries (entries_in s slots)
  pub listed : (s handle key : ℕ) → key_of handle (entries_in s slots).entries ≡ Some key
      → owner_in pool key ≡ Some (s, handle)
  pub owned : (s handle key : ℕ) → owner_in pool key ≡ Some (s, handle)
      → key_of handle (entries_in s slots).entries ≡ Some key
  pub count : held_count pool ≡ sum_by (λ slot. length slot.entries) slots
  pub room : length pool ≡ sum_by (λ slot. all_quotas slot.quotas) slots
