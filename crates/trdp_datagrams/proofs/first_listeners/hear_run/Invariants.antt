use Rattle.std.proofs.Common.{◌≡◌, ◌+◌, ◌≤◌, length}
use Rattle.trdp_filter.specs.Telegrams.{telegram_model}
use Rattle.trdp_datagrams.proofs.NoteLemmas.HeardByRuns.{HearsRun}
use Rattle.trdp_datagrams.proofs.first_listeners.hear_run.Given as goal

abbrev pub invariant-loop-row : goal.invariant-loop-row
invariant-loop-row l = record {
  heard :
      HearsRun (telegram_model l.telegram) l.globals l.store l.rows l.fn.heard l.heard l.row-index;
  length : length l.heard ≡ 16;
  comparisons : l.counts.comparisons ≡ l.fn.counts.comparisons;
  tests : l.counts.tests ≤ l.fn.counts.tests + l.row-index;
  look_ups : l.counts.look_ups ≡ l.fn.counts.look_ups;
}
