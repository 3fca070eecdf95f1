use Rattle.std.proofs.Common.{◌≡◌, ◌+◌, ◌*◌, ◌≤◌, drop}
use Rattle.std.specs.Prelude.{vec_len, vec_capacity}
use Rattle.trdp_filter.specs.Telegrams.{telegram_model}
use Rattle.trdp_store.specs.TableSlots.{slots_of}
use Rattle.trdp_datagrams.specs.Meant.{meant_of}
use Rattle.trdp_outbox.specs.Rooms.{room_bytes_limit}
use Rattle.trdp_datagrams.proofs.NoteLemmas.Noted.{NotesAll}
use Rattle.trdp_datagrams.proofs.addressees.note_hearers.Given as goal

-- the listeners of the slots before the number are noted, each with its room
abbrev pub invariant-loop-s : goal.invariant-loop-s
invariant-loop-s l = record {
  notes :
      NotesAll (telegram_model l.telegram) l.globals (slots_of l.store) l.noted.items l.room l.s;
  rows : l.room.rows ≤ l.s;
  bytes : l.room.bytes ≤ room_bytes_limit * l.s;
  capacity : vec_capacity l.noted ≡ vec_capacity l.fn.noted;
  length : vec_len l.noted ≤ l.s;
  few : vec_len l.noted + meant_of (telegram_model l.telegram) (drop l.s (slots_of l.store))
      ≤ meant_of (telegram_model l.telegram) (slots_of l.store);
}
