use Rattle.std.proofs.Common.{◌≡◌, length}
use Rattle.trdp_dataset.specs.Stored.{within_row}
use Rattle.trdp_dataset.proofs.depth.nestable.Given as goal

abbrev pub invariant-loop : goal.invariant-loop
invariant-loop l = record {
  len : length l.within.items ≡ length l.datasets;
  row : l.within.items ≡ within_row l.datasets l.counter;
}
