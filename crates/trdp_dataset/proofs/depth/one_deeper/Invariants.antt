use Rattle.std.proofs.Common.{◌≡◌, ℕ, suc, take, map, length}
use Rattle.trdp_dataset.specs.Depths.{is_within}
use Rattle.trdp_dataset.specs.Stored.{within_row}
use Rattle.trdp_dataset.proofs.depth.one_deeper.Given as goal

abbrev pub invariant-loop-i : goal.invariant-loop-i
invariant-loop-i l = record {
  len : length l.next.items ≡ l.i;
  row : (depth : ℕ) → l.within ≡ within_row l.datasets depth
      → l.next.items ≡ map (λ d. is_within l.datasets (suc depth) d.id) (take l.i l.datasets);
}
