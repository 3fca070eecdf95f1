use Rattle.std.proofs.Common.{◌≡◌, length}
use Rattle.trdp_dataset.specs.FixedSizes.{fixed_row}
use Rattle.trdp_dataset.proofs.fixed.fixed_datasets.Given as goal

abbrev pub invariant-loop : goal.invariant-loop
invariant-loop l = record {
  len : length l.fixed.items ≡ length l.datasets;
  row : l.fixed.items ≡ fixed_row l.datasets l.counter;
}
