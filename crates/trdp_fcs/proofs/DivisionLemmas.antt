-- The register's steps are the division's.
-- For `PieceLemmas` and `ZeroLemmas`, on which all functions of the register rest.
-- By induction on the bits: each is shifted out, and adds the divisor where a 1 left the register.
use Rattle.std.proofs.Math.Nat.{one-le-pow, pow-succ', pow-le-pow_right}
use Rattle.std.proofs.Common.{subst, append_assoc, ◌≡◌, ℕ, zero, suc, ◌+◌, ◌-◌, ◌*◌, ◌/◌, ◌%◌}
use Rattle.std.proofs.Common.{◌^◌, ◌<◌, ◌≤◌, true, false, cond, eqb, List, [], ◌∷◌, ◌++◌}
use Rattle.std.proofs.Common.{length, drop, replicate, refl, sym, ap, ◌∙◌, arith, bit_xor}
use Rattle.std.specs.Prelude.{flat_map}
use lib.Bits.{xor_zero_r, xor_assoc, xor_comm, xor_mod, xor_shr, xor_lt}
use Rattle.trdp_fcs.specs.Bits.{bits_from_bottom, number_from_bottom, inverted}
use Rattle.trdp_fcs.specs.Division.{add_front, divide}
use Rattle.trdp_fcs.specs.FrameCheck.{generator}
use Rattle.trdp_fcs.specs.Register.{step, steps}

-- two sums are one
pub add_front-twice : (k a b : ℕ) (xs : List ℕ)
    → add_front (bits_from_bottom k a) (add_front (bits_from_bottom k b) xs)
    ≡ add_front (bits_from_bottom k (bit_xor a b)) xs
add_front-twice zero a b xs = refl
add_front-twice (suc k) a b [] = refl
add_front-twice (suc k) a b (x ∷ xs) =
    let head : bit_xor (a % 2) (bit_xor (b % 2) x) ≡ bit_xor (bit_xor a b % 2) x =
    sym (xor_assoc (a % 2) (b % 2) x) ∙ ap (λ (n : ℕ). bit_xor n x) (sym (xor_mod a b 1)) in
    let tail : add_front (bits_from_bottom k (a / 2)) (add_front (bits_from_bottom k (b / 2)) xs)
    ≡ add_front (bits_from_bottom k (bit_xor a b / 2)) xs =
    add_front-twice k (a / 2) (b / 2) xs
    ∙ ap (λ (n : ℕ). add_front (bits_from_bottom k n) xs) (sym (xor_shr a b 1)) in
    rw (head, tail) refl

-- a highest bit that is 0 adds nothing
pub add_front-short : (k r : ℕ) (xs : List ℕ)
    → r < 2 ^ k → add_front (bits_from_bottom (suc k) r) xs ≡ add_front (bits_from_bottom k r) xs
add_front-short zero r [] h = refl
add_front-short zero r (x ∷ xs) h = let e : r ≡ 0 = omega arith in rw e refl
add_front-short (suc k) r [] h = refl
add_front-short (suc k) r (x ∷ xs) h =
    ap (λ (rest : List ℕ). bit_xor (r % 2) x ∷ rest) (add_front-short k (r / 2) xs (omega arith))

-- the bits of a number below 2 ^ k, added to a front of zeros
pub add_front-zeros : (k m r x : ℕ) (xs : List ℕ) → x < 2 ^ k
    → add_front (bits_from_bottom (k + m) r) (bits_from_bottom k x ++ xs)
    ≡ add_front (bits_from_bottom (k + m) (bit_xor r x)) (replicate k 0 ++ xs)
add_front-zeros zero m r x xs h = let e : x ≡ 0 = omega arith in rw (e, xor_zero_r r) refl
add_front-zeros (suc k) m r x xs h =
    let same : suc k + m ≡ suc (k + m) = omega arith in
    let head : bit_xor (r % 2) (x % 2) ≡ bit_xor (bit_xor r x % 2) 0 = sym (xor_mod r x 1)
    ∙ sym (xor_zero_r (bit_xor r x % 2)) in
    let tail = add_front-zeros k m (r / 2) (x / 2) xs (omega arith) in
    rw (same, head, tail, ← xor_shr r x 1) refl

-- one bit of 0
pub divide-step : (k n r d : ℕ) (xs : List ℕ) → r < 2 ^ suc k
    → divide (1 ∷ bits_from_bottom (suc k) d) (suc n)
    (add_front (bits_from_bottom (suc k) r) (0 ∷ xs)) ≡ divide (1 ∷ bits_from_bottom (suc k) d)
    n (add_front (bits_from_bottom (suc k) (step d r)) xs)
divide-step k n r d xs h =
    let zero_r : bit_xor (r % 2) 0 ≡ r % 2 = xor_zero_r (r % 2) in
    let half : r / 2 < 2 ^ k = omega arith in
    let short : add_front (bits_from_bottom k (r / 2)) xs
    ≡ add_front (bits_from_bottom (suc k) (r / 2)) xs =
    sym (add_front-short k (r / 2) xs half) in
    let both :
    add_front (bits_from_bottom (suc k) d) (add_front (bits_from_bottom (suc k) (r / 2)) xs)
    ≡ add_front (bits_from_bottom (suc k) (bit_xor (r / 2) d)) xs =
    add_front-twice (suc k) d (r / 2) xs
    ∙ ap (λ (m : ℕ). add_front (bits_from_bottom (suc k) m) xs) (xor_comm d (r / 2)) in
    let divisor : List ℕ = 1 ∷ bits_from_bottom (suc k) d in
    let rest : List ℕ = add_front (bits_from_bottom (suc k) (r / 2)) xs in
    rw (zero_r, short) (
    elim (eqb (r % 2) 1)
    as (λ b. divide divisor n (drop 1 (cond b (add_front divisor (r % 2 ∷ rest)) (r % 2 ∷ rest)))
    ≡ divide divisor
    n (add_front (bits_from_bottom (suc k) (cond b (bit_xor (r / 2) d) (r / 2))) xs))
    [ true ↦ ap (λ (bs : List ℕ). divide divisor n bs) both | false ↦ refl ]
    )

pub step-fits : (k r d : ℕ) → r < 2 ^ k → d < 2 ^ k → step d r < 2 ^ k
step-fits k r d h dh =
    elim (eqb (r % 2) 1) as (λ b. cond b (bit_xor (r / 2) d) (r / 2) < 2 ^ k)
    [ true ↦ xor_lt k (r / 2) d (omega arith) dh | false ↦ omega arith ]

pub divide-steps : (m k n r d : ℕ) (xs : List ℕ) → r < 2 ^ suc k → d < 2 ^ suc k
    → divide (1 ∷ bits_from_bottom (suc k) d)
    (m + n) (add_front (bits_from_bottom (suc k) r) (replicate m 0 ++ xs)) ≡ divide
    (1 ∷ bits_from_bottom (suc k) d) n (add_front (bits_from_bottom (suc k) (steps d m r)) xs)
divide-steps zero k n r d xs h dh = let e : zero + n ≡ n = omega arith in rw e refl
divide-steps (suc m) k n r d xs h dh =
    let e : suc m + n ≡ suc (m + n) = omega arith in
    rw e (divide-step k (m + n) r d (replicate m 0 ++ xs) h
    ∙ divide-steps m k n (step d r) d xs (step-fits (suc k) r d h dh) dh)

-- zeros change nothing
pub add_front-nothing : (k r : ℕ)
    → add_front (bits_from_bottom k r) (replicate k 0) ≡ bits_from_bottom k r
add_front-nothing zero r = refl
add_front-nothing (suc k) r =
    let head : bit_xor (r % 2) 0 ≡ r % 2 = xor_zero_r (r % 2) in
    rw (head, add_front-nothing k (r / 2)) refl

-- all bits of 2 ^ k - 1 are 1
pub ones : (k : ℕ) → bits_from_bottom k (2 ^ k - 1) ≡ replicate k 1
ones zero = refl
ones (suc k) =
    let positive : 1 ≤ 2 ^ k = one-le-pow k 2 (omega arith) in
    let low : (2 ^ suc k - 1) % 2 ≡ 1 = rw (pow-succ' 2 k) (omega arith) in
    let high : (2 ^ suc k - 1) / 2 ≡ 2 ^ k - 1 = rw (pow-succ' 2 k) (omega arith) in
    rw (low, high, ones k) refl

pub number_from_bottom-inverted : (k r : ℕ) → r < 2 ^ k
    → number_from_bottom (inverted (bits_from_bottom k r)) ≡ 2 ^ k - 1 - r
number_from_bottom-inverted zero r h = omega arith
number_from_bottom-inverted (suc k) r h =
    let half : r / 2 < 2 ^ k = omega arith in
    let ih = number_from_bottom-inverted k (r / 2) half in
    rw ih (omega (arith, pow-succ' 2 k))

pub steps-fit : (m k r d : ℕ) → r < 2 ^ k → d < 2 ^ k → steps d m r < 2 ^ k
steps-fit zero k r d h dh = h
steps-fit (suc m) k r d h dh = steps-fit m k (step d r) d (step-fits k r d h dh) dh

-- each item has m bits
abbrev pub AreSmall : ℕ → List ℕ → Type 0
AreSmall m [] = Unit {0}
AreSmall m (x ∷ xs) = (x < 2 ^ m) × AreSmall m xs

-- the register after these items
abbrev pub after : ℕ → ℕ → List ℕ → ℕ → ℕ
after d m [] r = r
after d m (x ∷ xs) r = after d m xs (steps d m (bit_xor r x))

pub small_below : (m t x : ℕ) → x < 2 ^ m → x < 2 ^ (m + t)
small_below m t x h = let le : 2 ^ m ≤ 2 ^ (m + t) =
    pow-le-pow_right {n = 2} (omega arith) {i = m} {j = m + t} (omega arith) in omega (arith, le)

pub divided : (m t k d : ℕ) → suc k ≡ m + t → (xs : List ℕ) (r : ℕ)
    → r < 2 ^ suc k → d < 2 ^ suc k → AreSmall m xs
    → divide (1 ∷ bits_from_bottom (suc k) d) (m * length xs) (add_front (bits_from_bottom (suc k)
    r) (flat_map (λ x. bits_from_bottom m x) xs ++ replicate (suc k) 0))
    ≡ bits_from_bottom (suc k) (after d m xs r)
divided m t k d e [] r h dh small =
    let none : m * zero ≡ zero = omega arith in
    ap (λ (n : ℕ). divide (1 ∷ bits_from_bottom (suc k) d)
    n (add_front (bits_from_bottom (suc k) r) (replicate (suc k) 0))) none
    ∙ add_front-nothing (suc k) r
divided m t k d e (x ∷ xs) r h dh small =
    let count : m * suc (length xs) ≡ m + m * length xs = omega arith in
    let x_fits : x < 2 ^ suc k = rw e (small_below m t x small.0) in
    let mixed : bit_xor r x < 2 ^ suc k = xor_lt (suc k) r x h x_fits in
    let rest : List ℕ = flat_map (λ (y : ℕ). bits_from_bottom m y) xs ++ replicate (suc k) 0 in
    let front : add_front (bits_from_bottom (suc k) r) (bits_from_bottom m x ++ rest)
    ≡ add_front (bits_from_bottom (suc k) (bit_xor r x)) (replicate m 0 ++ rest) =
    subst (λ (w : ℕ). add_front (bits_from_bottom w r) (bits_from_bottom m x ++ rest)
    ≡ add_front (bits_from_bottom w (bit_xor r x)) (replicate m 0 ++ rest)) (sym e)
    (add_front-zeros m t r x rest small.0) in
    let zeros : List ℕ = replicate (suc k) 0 in
    let later : List ℕ = flat_map (λ (y : ℕ). bits_from_bottom m y) xs in
    ap (λ (n : ℕ). divide (1 ∷ bits_from_bottom (suc k) d)
    n (add_front (bits_from_bottom (suc k) r) ((bits_from_bottom m x ++ later) ++ zeros))) count
    ∙ ap (λ (bs : List ℕ). divide (1 ∷ bits_from_bottom (suc k) d)
    (m + m * length xs) (add_front (bits_from_bottom (suc k) r) bs))
    (append_assoc (bits_from_bottom m x) later zeros)
    ∙ (
    ap (λ (bs : List ℕ). divide (1 ∷ bits_from_bottom (suc k) d) (m + m * length xs) bs) front
    ∙ divide-steps m k (m * length xs) (bit_xor r x) d rest mixed dh
    ∙ divided m t k d e xs (steps d m (bit_xor r x))
    (steps-fit m (suc k) (bit_xor r x) d mixed dh) dh small.1
    )

pub after-fits : (m t k d : ℕ) → k ≡ m + t → d < 2 ^ k
    → (xs : List ℕ) (r : ℕ) → r < 2 ^ k → AreSmall m xs → after d m xs r < 2 ^ k
after-fits m t k d e dh [] r h small = h
after-fits m t k d e dh (x ∷ xs) r h small =
    let x_fits : x < 2 ^ k = rw e (small_below m t x small.0) in
    after-fits m t k d e dh xs (steps d m (bit_xor r x))
    (steps-fit m k (bit_xor r x) d (xor_lt k r x h x_fits) dh) small.1

-- the generator's bits but the first are those of the register's divisor, the lowest first
reversed : generator ≡ 1 ∷ bits_from_bottom 32 0xEDB88320
reversed = refl
