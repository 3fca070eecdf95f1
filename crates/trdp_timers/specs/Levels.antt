-- What is at a place of a heap and below it, level by level, where each key weighs something.
use Rattle.std.specs.Prelude.{ℕ, zero, suc, ◌+◌, ◌*◌, ◌^◌, ◌<◌, List, map, slice_index}

-- the weight of the key at a place
abbrev pub weight_at : List ℕ → List ℕ → ℕ → ℕ
weight_at weights keys i = slice_index (map (λ k. slice_index weights k) keys) i

-- what is at p and below it, d levels of it, weighs together
unfoldable pub below : (ℕ → ℕ) → ℕ → ℕ → ℕ
below weight zero p = 0
below weight (suc d) p =
    weight p + (below weight d (2 * p + 1) + below weight d (2 * p + 2))

-- what is at p and below it, in a heap of n, can be added up within a u64
abbrev pub CanAdd : ℕ → (ℕ → ℕ) → ℕ → Type 0
CanAdd n weight p = (d : ℕ) × (n < (p + 1) * 2 ^ d) × (below weight d p < 2 ^ 64)

-- two comparisons for each weight there, and one more, can be counted within a u64
abbrev pub CanCountDue : ℕ → (ℕ → ℕ) → ℕ → ℕ → Type 0
CanCountDue n weight p probes =
    (d : ℕ) × (n < (p + 1) * 2 ^ d) × (probes + 2 * below weight d p + 1 < 2 ^ 64)
