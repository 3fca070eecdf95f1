-- The slots of the table, without keys.
use Rattle.std.specs.Prelude.{List, map}
use Rattle.trdp_table.specs.Tables.{Keyed, SlotTable, TableState}
use Rattle.trdp_model.specs.Slots.{Entry, SlotState}

-- an object of the table as its slot knows it, without its key and the kind that the table records
abbrev pub entry_of_keyed : Keyed → Entry
entry_of_keyed keyed = record { handle = keyed.handle; object = keyed.object }

-- a slot of the table, without keys
abbrev pub slot_of : SlotTable → SlotState
slot_of slot = record {
  quotas = slot.quotas;
  next = slot.next;
  objects = map entry_of_keyed slot.objects;
}

-- the slots of the table, without keys
abbrev pub slots_of : TableState → List SlotState
slots_of table = map slot_of table
