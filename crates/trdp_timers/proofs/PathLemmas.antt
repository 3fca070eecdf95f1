-- What a step up or down leaves, and what it costs.
-- For `rise` and `sink`, and for `DueLemmas`.
-- By arithmetic: each step halves or doubles the place, so a path has as many as the depth.
use Rattle.std.proofs.Common.{◌≡◌, ◌≤◌, ◌<◌, ◌-◌, ◌+◌, ◌*◌, ◌/◌, ◌^◌, ℕ, zero, suc, ap, ◌∙◌, arith}
use Rattle.std.proofs.Math.Nat.{pow-succ'}
use Rattle.std.proofs.lemmas.Nat.{mul-le}
use Rattle.trdp_timers.specs.Costs.{CanCountUp, CanCountDown}

pub count_up : (p probes now : ℕ) → 0 < p → now ≡ probes + 1
    → CanCountUp p probes → CanCountUp ((p - 1) / 2) now
count_up p probes now some one (zero, deep, fits) = absurd (omega arith)
count_up p probes now some one (suc b, deep, fits) = (b, omega (arith, pow-succ' 2 b), omega arith)

double : (x m : ℕ) → x * (2 * m) ≡ (2 * x) * m
double x m = grind arith

pub halve : (n p c b : ℕ) → 2 * p + 1 ≤ c → n < (p + 1) * 2 ^ suc b → n < (c + 1) * 2 ^ b
halve n p c b low deep =
    let m = mul-le (2 * (p + 1)) (2 ^ b) (c + 1) (2 ^ b) (omega arith) (omega arith) in
    let e : (p + 1) * 2 ^ suc b ≡ 2 * (p + 1) * 2 ^ b = ap (λ (w : ℕ). (p + 1) * w) (pow-succ' 2 b)
    ∙ double (p + 1) (2 ^ b) in
    omega arith

pub count_down : (n m p c probes now : ℕ) → m ≡ n → 2 * p + 1 ≤ c
    → p < n → now ≤ probes + 1 → 2 * p + 1 < n → CanCountDown n p probes → CanCountDown m c now
count_down n m p c probes now same_n low within one more (zero, deep, fits) = absurd (omega arith)
count_down n m p c probes now same_n low within one more (suc b, deep, fits) =
    (b, omega (arith, halve n p c b low deep), omega arith)

-- in a loop: what the comparisons to come may cost
pub cost_step : (p probes start now b : ℕ) → 0 < p
    → now ≡ probes + 1 → ((j : ℕ) × (p + 1 < 2 ^ j) × (probes + j ≤ start + b))
    → (j : ℕ) × ((p - 1) / 2 + 1 < 2 ^ j) × (now + j ≤ start + b)
cost_step p probes start now b some one (zero, deep, most) = absurd (omega arith)
cost_step p probes start now b some one (suc j, deep, most) =
    (j, omega (arith, pow-succ' 2 j), omega arith)

pub cost_end : (q start now b : ℕ)
    → ((j : ℕ) × (q < 2 ^ j) × (now + j ≤ start + b)) → now ≤ start + b
cost_end q start now b (j, deep, most) = omega arith

-- the same on the way down
pub cost_step_down : (n p c probes start now b : ℕ)
    → 2 * p + 1 ≤ c → now ≤ probes + 1 → 2 * p + 1 < n
    → ((j : ℕ) × (n < (p + 1) * 2 ^ j) × (probes + j ≤ start + b))
    → (j : ℕ) × (n < (c + 1) * 2 ^ j) × (now + j ≤ start + b)
cost_step_down n p c probes start now b low one more (zero, deep, most) = absurd (omega arith)
cost_step_down n p c probes start now b low one more (suc j, deep, most) =
    (j, halve n p c j low deep, omega arith)

pub cost_end_down : (n q start now b : ℕ)
    → ((j : ℕ) × (n < (q + 1) * 2 ^ j) × (now + j ≤ start + b)) → now ≤ start + b
cost_end_down n q start now b (j, deep, most) = omega arith
