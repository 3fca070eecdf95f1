use Rattle.trdp_dataset.specs.Limits.{size_cap}
use Rattle.std.proofs.Common.{◌≡◌, ℕ, suc, take, map, length}
use Rattle.std.specs.Prelude.{min}
use Rattle.trdp_dataset.specs.ZeroSizes.{dataset_size}
use Rattle.trdp_dataset.specs.Stored.{size_row}
use Rattle.trdp_dataset.proofs.size.one_deeper.Given as goal

abbrev pub invariant-loop-i : goal.invariant-loop-i
invariant-loop-i l = record {
  len : length l.next.items ≡ l.i;
  row : (depth : ℕ) → l.sizes ≡ size_row l.datasets depth → l.next.items
      ≡ map (λ d. min (dataset_size l.datasets (suc depth) d.id) size_cap) (take l.i l.datasets);
}
