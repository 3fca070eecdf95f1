-- What an act of one object of the table needs and does, and then acts of several of one slot.
use Rattle.std.specs.Prelude.{◌≡◌, ℕ, ◌+◌, ◌≤◌, ◌++◌, Some, slice_set}
use Rattle.trdp_model.specs.Kinds.{kind_of}
use Rattle.trdp_table.specs.Tables.{TableState, slot_in}
use Rattle.trdp_outbox.specs.declared.room.Room.{Room}
use Rattle.trdp_model.specs.Records.{labelled}
use Rattle.trdp_model.specs.Slots.{Entry, SlotState, Outcome, entry_under}
use Rattle.trdp_store.specs.TableSlots.{slot_of, slots_of}
use Rattle.trdp_model.specs.Acts.{Act, acted}
use Rattle.trdp_outbox.specs.Outboxes.{OutboxState}
use Rattle.trdp_outbox.specs.Rooms.{HasRoom, kind_room}

-- the slot of that number of the table
abbrev pub slot_at : ℕ → TableState → SlotState
slot_at s table = slot_of (slot_in s table)

-- the slot has an object of that handle, and the outbox has room for what it may record
pub record MayAct (slot : SlotState) (handle : ℕ) (out : OutboxState) : Type 0 where
  pub entry : Entry
  pub found : entry_under handle slot.objects ≡ Some entry
  pub room : HasRoom out (kind_room (kind_of entry.object))

-- no more than that room of the outbox was used
pub record TookWithin (out out_then : OutboxState) (room : Room) : Type 0 where
  pub rows : out.row_room ≤ out_then.row_room + room.rows
  pub bytes : out.byte_room ≤ out_then.byte_room + room.bytes

-- slot s of the table became that of the outcome, and its records were added at the end; all other
-- slots stay
pub record Becomes (s : ℕ) (outcome : Outcome) (table table_then : TableState)
    (out out_then : OutboxState) : Type 0 where
  pub slots : slots_of table_then ≡ slice_set (slots_of table) s outcome.slot
  pub records : out_then.records ≡ out.records ++ labelled s outcome.records

-- what an act of the object of a handle makes of its slot
abbrev pub act_of : Entry → (Entry → Act) → SlotState → Outcome
act_of entry act slot = record {
  slot = record slot { objects = acted entry.handle (act entry).left slot.objects };
  records = (act entry).records;
}

-- the object of that handle in slot s acted, within its room
pub record ActsAt (s handle : ℕ) (act : Entry → Act) (table table_then : TableState)
    (out out_then : OutboxState) : Type 0 where
  pub entry : Entry
  pub found : entry_under handle (slot_at s table).objects ≡ Some entry
  pub becomes : Becomes s (act_of entry act (slot_at s table)) table table_then out out_then
  pub within : TookWithin out out_then (kind_room (kind_of entry.object))
