-- Comparisons along one path of a heap, which a u64 can count.
use Rattle.std.specs.Prelude.{ℕ, ◌+◌, ◌*◌, ◌^◌, ◌<◌}

-- one for each level from p up
abbrev pub CanCountUp : ℕ → ℕ → Type 0
CanCountUp p probes = (b : ℕ) × (p + 1 < 2 ^ b) × (probes + b < 2 ^ 64)

-- one for each level from p down, in a heap of n
abbrev pub CanCountDown : ℕ → ℕ → ℕ → Type 0
CanCountDown n p probes = (b : ℕ) × (n < (p + 1) * 2 ^ b) × (probes + b < 2 ^ 64)
