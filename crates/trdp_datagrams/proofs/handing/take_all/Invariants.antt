use Rattle.std.proofs.Common.{◌≡◌, ℕ, ◌+◌, ◌*◌, ◌^◌, ◌<◌, ◌≤◌, drop}
use Rattle.trdp_filter.specs.Telegrams.{telegram_model}
use Rattle.trdp_model.specs.Configs.{setup_of}
use Rattle.trdp_table.specs.Tables.{room_of}
use Rattle.trdp_store.specs.TableSlots.{slots_of}
use Rattle.trdp_datagrams.proofs.DatagramLemmas.Handed.{aim_of}
use Rattle.trdp_datagrams.proofs.DatagramLemmas.HandedInTurn.{Goes}
use Rattle.trdp_datagrams.proofs.handing.take_all.Given as goal

-- those that were noted and haven't had the telegram lead to the slots as the telegram changes
-- them
abbrev pub invariant-loop-addressee : goal.invariant-loop-addressee
invariant-loop-addressee l = record {
  goes : Goes (aim_of (setup_of l.setting.config.now) (telegram_model l.telegram)
      l.setting.globals.now (slots_of l.fn.store) l.fn.out.records) l.store l.out
      (drop l.addressee-index l.noted);
  room_is : room_of l.store ≡ room_of l.fn.store;
  comparisons : (b : ℕ) → room_of l.fn.store < 2 ^ b
      → l.counts.comparisons ≤ l.fn.counts.comparisons + l.addressee-index * (2 * b + 2);
  tests : l.counts.tests ≤ l.fn.counts.tests + l.addressee-index;
  look_ups : l.counts.look_ups ≤ l.fn.counts.look_ups + l.addressee-index;
}
