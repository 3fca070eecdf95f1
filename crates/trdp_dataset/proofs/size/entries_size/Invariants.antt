use Rattle.trdp_dataset.specs.Limits.{size_cap}
use Rattle.std.proofs.Common.{◌≡◌, ℕ, ◌+◌, ◌≤◌, drop}
use Rattle.std.specs.Prelude.{min}
use Rattle.trdp_dataset.specs.ZeroSizes.{form_size, entries_size, dataset_size}
use Rattle.trdp_dataset.specs.Stored.{size_row}
use Rattle.trdp_dataset.proofs.size.entries_size.Given as goal

abbrev pub invariant-loop-element : goal.invariant-loop-element
invariant-loop-element l = record {
  bound : l.total ≤ size_cap;
  sum : (depth : ℕ) → l.sizes ≡ size_row l.datasets depth
      → min (l.total + entries_size (form_size (dataset_size l.datasets depth))
      (drop l.element-index l.elements)) size_cap
      ≡ min (entries_size (form_size (dataset_size l.datasets depth)) l.elements) size_cap;
}
