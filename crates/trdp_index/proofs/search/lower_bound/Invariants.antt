use Rattle.std.proofs.Common.{◌≡◌, ◌≤◌, ◌<◌, ◌-◌, ◌+◌, ◌^◌, ℕ, length, take, drop}
use Rattle.trdp_index.specs.Rows.{AllBefore, NoneBefore}
use Rattle.trdp_index.proofs.search.lower_bound.Given as goal

-- the rows before `low` come before the rank, no row from `high` on does, and each comparison
-- halved what is between
abbrev pub invariant-loop-low : goal.invariant-loop-low
invariant-loop-low g l = record {
  order : l.low ≤ l.high;
  within : l.high ≤ length l.rows;
  before : AllBefore g.R.Ranked.rank_of l.rank (take l.low l.rows);
  after : NoneBefore g.R.Ranked.rank_of l.rank (drop l.high l.rows);
  cost : (b : ℕ) → length l.rows < 2 ^ b → (j : ℕ)
      × (l.comparisons + j ≤ l.fn.comparisons + b) × (l.high - l.low < 2 ^ j);
  fits : length l.rows < 2 ^ 64;
  few : l.comparisons ≤ l.fn.comparisons + 64;
  kept : l.fn.comparisons ≤ l.comparisons;
  untouched : l.comparisons ≡ l.fn.comparisons → (l.low ≡ 0) × (l.high ≡ length l.rows);
}

abbrev pub decreases-loop-low : goal.decreases-loop-low
decreases-loop-low g l = l.high - l.low
