use Rattle.std.proofs.Common.{◌≡◌, length}
use Rattle.trdp_dataset.specs.Stored.{size_row}
use Rattle.trdp_dataset.proofs.size.nested_sizes.Given as goal

abbrev pub invariant-loop : goal.invariant-loop
invariant-loop l = record {
  len : length l.sizes.items ≡ length l.datasets;
  row : l.sizes.items ≡ size_row l.datasets l.counter;
}
