use Rattle.std.proofs.Common.{◌≡◌, ◌≤◌, ◌+◌, ◌*◌, vec_len, vec_capacity}
use Rattle.trdp_filter.specs.Telegrams.{telegram_model}
use Rattle.trdp_outbox.specs.Rooms.{room_rows_limit, room_bytes_limit}
use Rattle.trdp_datagrams.proofs.NoteLemmas.ByCom.{NotesRun}
use Rattle.trdp_datagrams.proofs.addressees.note_run.Given as goal

abbrev pub invariant-loop-row : goal.invariant-loop-row
invariant-loop-row l = record {
  notes : NotesRun (telegram_model l.telegram)
      l.globals l.store l.rows l.fn.noted.items l.noted.items l.room l.row-index;
  rows : l.room.rows ≤ room_rows_limit * l.row-index;
  bytes : l.room.bytes ≤ room_bytes_limit * l.row-index;
  capacity : vec_capacity l.noted ≡ vec_capacity l.fn.noted;
  length : vec_len l.noted ≤ vec_len l.fn.noted + l.row-index;
  comparisons : l.counts.comparisons ≡ l.fn.counts.comparisons;
  tests : l.counts.tests ≤ l.fn.counts.tests + l.row-index;
  look_ups : l.counts.look_ups ≡ l.fn.counts.look_ups;
}
