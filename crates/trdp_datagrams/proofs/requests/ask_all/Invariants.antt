use Rattle.std.proofs.Common.{◌≡◌, ℕ, ◌+◌, ◌*◌, ◌^◌, ◌<◌, ◌≤◌, drop}
use Rattle.trdp_filter.specs.Telegrams.{telegram_model}
use Rattle.trdp_table.specs.Tables.{room_of}
use Rattle.trdp_store.specs.TableSlots.{slots_of}
use Rattle.trdp_datagrams.proofs.DatagramLemmas.AskedInTurn.{GoesAsking, request_of}
use Rattle.trdp_datagrams.proofs.requests.ask_all.Given as goal

-- the slots of those that were noted and haven't had the request lead to the slots as it changes
-- them
abbrev pub invariant-loop-listener : goal.invariant-loop-listener
invariant-loop-listener l = record {
  goes : GoesAsking (request_of (telegram_model l.telegram) l.globals (slots_of l.fn.store)
      l.fn.out.records) l.store l.out (drop l.listener-index l.noted);
  room_is : room_of l.store ≡ room_of l.fn.store;
  comparisons : (b : ℕ) → room_of l.fn.store < 2 ^ b
      → l.counts.comparisons ≤ l.fn.counts.comparisons + l.listener-index * (2 * b + 2);
  tests : l.counts.tests ≡ l.fn.counts.tests;
  look_ups : l.counts.look_ups ≤ l.fn.counts.look_ups + 2 * l.listener-index;
}
