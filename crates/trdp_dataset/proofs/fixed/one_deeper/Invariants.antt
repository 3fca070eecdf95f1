use Rattle.std.proofs.Common.{◌≡◌, ℕ, suc, take, map, length}
use Rattle.trdp_dataset.specs.FixedSizes.{is_fixed}
use Rattle.trdp_dataset.specs.FixedSizes.{fixed_row}
use Rattle.trdp_dataset.proofs.fixed.one_deeper.Given as goal

abbrev pub invariant-loop-i : goal.invariant-loop-i
invariant-loop-i l = record {
  len : length l.next.items ≡ l.i;
  row : (depth : ℕ) → l.fixed ≡ fixed_row l.datasets depth
      → l.next.items ≡ map (λ d. is_fixed l.datasets (suc depth) d.id) (take l.i l.datasets);
}
