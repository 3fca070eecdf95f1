-- A search that halves its range.
-- For `lower_bound`.
-- By arithmetic: n probes halve the range n times.
use Rattle.std.proofs.Common.{◌≤◌, ◌<◌, ◌+◌, ◌/◌, ◌^◌, ℕ, zero, suc, arith}
use Rattle.std.proofs.Math.Nat.{pow-succ'}

pub step_bound : (p q b d e : ℕ) → ((j : ℕ) × (p + j ≤ q + b) × (d < 2 ^ j))
    → 0 < d → e ≤ d / 2 → (j : ℕ) × (p + 1 + j ≤ q + b) × (e < 2 ^ j)
step_bound p q b d e (zero, sum, small) some half = absurd (omega arith)
step_bound p q b d e (suc j, sum, small) some half = (j, omega arith, omega (arith, pow-succ' 2 j))

pub capped : (p q b e : ℕ) → ((j : ℕ) × (p + 1 + j ≤ q + b) × (e < 2 ^ j)) → p + 1 ≤ q + b
capped p q b e (j, sum, small) = omega arith
