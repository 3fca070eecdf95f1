-- Bytes of 0 shift the register, and act on each of its bytes alone: what the tables rest on.
-- For `LookUpLemmas` and `DamageLemmas`.
-- By: a step leads a sum without carry to the sum of where it leads its terms, and so do many.
use Rattle.std.proofs.Common.{◌≡◌, ℕ, zero, suc, ◌+◌, ◌*◌, ◌/◌, ◌%◌, ◌^◌, ◌<◌, List, [], ◌∷◌}
use Rattle.std.proofs.Common.{length, refl, sym, ap, ◌∙◌, arith, bit_xor, inl, inr, ◌⊎◌}
use Rattle.std.proofs.Math.Nat.{pow-succ'}
use Rattle.std.proofs.lemmas.Bool.{cases_lt}
use lib.Bits.{xor_zero_r, xor_assoc, xor_comm, xor_mod, xor_shr, xor_shifted, xor_self}
use Rattle.trdp_fcs.specs.Register.{step, steps, past_zeros, past}
use Rattle.trdp_fcs.proofs.DivisionLemmas.{AreSmall}

-- four terms in pairs
swap_inner : (a b c d : ℕ)
    → bit_xor (bit_xor a b) (bit_xor c d) ≡ bit_xor (bit_xor a c) (bit_xor b d)
swap_inner a b c d =
    xor_assoc a b (bit_xor c d)
    ∙ ap (λ (x : ℕ). bit_xor a x)
    (sym (xor_assoc b c d) ∙ ap (λ (x : ℕ). bit_xor x d) (xor_comm b c) ∙ xor_assoc c b d)
    ∙ sym (xor_assoc a c (bit_xor b d))

pub parity : (n : ℕ) → (n % 2 ≡ 0) ⊎ (n % 2 ≡ 1)
parity n = elim (cases_lt (n % 2) 1) [ inl h ↦ inl (omega arith) | inr h ↦ inr (omega arith) ]

step-xor : (d a b : ℕ) → step d (bit_xor a b) ≡ bit_xor (step d a) (step d b)
step-xor d a b =
    let low : bit_xor a b % 2 ≡ bit_xor (a % 2) (b % 2) = xor_mod a b 1 in
    let high : bit_xor a b / 2 ≡ bit_xor (a / 2) (b / 2) = xor_shr a b 1 in
    elim (parity a) [
      | inl ea ↦ elim (parity b) [
        | inl eb ↦ rw (low, high, ea, eb) refl
        | inr eb ↦ rw (low, high, ea, eb) (xor_assoc (a / 2) (b / 2) d)
      ]
      | inr ea ↦ elim (parity b) [
        | inl eb ↦ rw (low, high, ea, eb) (xor_assoc (a / 2) (b / 2) d ∙ ap (λ (x : ℕ).
            bit_xor (a / 2) x) (xor_comm (b / 2) d) ∙ sym (xor_assoc (a / 2) d (b / 2)))
        | inr eb ↦
            rw (low, high, ea, eb) (sym (swap_inner (a / 2) d (b / 2) d ∙ ap (λ (x : ℕ). bit_xor
            (bit_xor (a / 2) (b / 2)) x) (xor_self d) ∙ xor_zero_r (bit_xor (a / 2) (b / 2))))
      ]
    ]

steps-xor : (n d a b : ℕ) → steps d n (bit_xor a b) ≡ bit_xor (steps d n a) (steps d n b)
steps-xor zero d a b = refl
steps-xor (suc n) d a b = ap (λ (x : ℕ). steps d n x) (step-xor d a b)
    ∙ steps-xor n d (step d a) (step d b)

-- as many bits of 0 are shifted out
steps-shifted : (n d x : ℕ) → steps d n (x * 2 ^ n) ≡ x
steps-shifted zero d x = omega arith
steps-shifted (suc n) d x =
    let even : x * 2 ^ suc n ≡ 2 * (x * 2 ^ n) = rw (pow-succ' 2 n) (omega arith) in
    let low : 2 * (x * 2 ^ n) % 2 ≡ 0 = omega arith in
    let high : 2 * (x * 2 ^ n) / 2 ≡ x * 2 ^ n = omega arith in
    ap (λ (y : ℕ). steps d n (step d y)) even ∙ rw (low, high) (steps-shifted n d x)

steps-add : (m n d x : ℕ) → steps d (m + n) x ≡ steps d n (steps d m x)
steps-add zero n d x = let e : zero + n ≡ n = omega arith in ap (λ (m : ℕ). steps d m x) e
steps-add (suc m) n d x =
    let e : suc m + n ≡ suc (m + n) = omega arith in
    rw e (steps-add m n d (step d x))

-- zeros act on the terms of a sum
pub zeros-xor : (n a b : ℕ) → past_zeros n (bit_xor a b) ≡ bit_xor (past_zeros n a) (past_zeros n b)
unfolding past_zeros
zeros-xor n a b = steps-xor (n * 8) 0xEDB88320 a b

pub zeros-none : (r : ℕ) → past_zeros 0 r ≡ r
unfolding past_zeros
zeros-none r = refl

pub zeros-add : (m n r : ℕ) → past_zeros (m + n) r ≡ past_zeros n (past_zeros m r)
unfolding past_zeros
zeros-add m n r =
    let e : (m + n) * 8 ≡ m * 8 + n * 8 = omega arith in
    rw e (steps-add (m * 8) (n * 8) 0xEDB88320 r)

-- a byte of 0 shifts the higher bytes down
zeros-shifted : (r : ℕ) → past_zeros 1 (r * 2 ^ 8) ≡ r
unfolding past_zeros
zeros-shifted r = steps-shifted 8 0xEDB88320 r

zeros-more : (n r : ℕ) → past_zeros (suc n) (r * 2 ^ 8) ≡ past_zeros n r
zeros-more n r =
    let e : suc n ≡ 1 + n = omega arith in
    ap (λ (m : ℕ). past_zeros m (r * 2 ^ 8)) e
    ∙ zeros-add 1 n (r * 2 ^ 8) ∙ ap (λ (x : ℕ). past_zeros n x) (zeros-shifted r)

-- the lowest byte apart
pub zeros-low : (n r : ℕ)
    → past_zeros (suc n) r ≡ bit_xor (past_zeros (suc n) (r % 256)) (past_zeros n (r / 256))
zeros-low n r =
    let low : r % 256 < 2 ^ 8 = omega arith in
    let parts : bit_xor (r / 256 * 2 ^ 8) (r % 256) ≡ r =
    xor_shifted (r / 256) 8 (r % 256) low ∙ omega arith in
    ap (λ (x : ℕ). past_zeros (suc n) x) (sym parts)
    ∙ zeros-xor (suc n) (r / 256 * 2 ^ 8) (r % 256)
    ∙ xor_comm (past_zeros (suc n) (r / 256 * 2 ^ 8)) (past_zeros (suc n) (r % 256))
    ∙ ap (λ (x : ℕ). bit_xor (past_zeros (suc n) (r % 256)) x) (zeros-more n (r / 256))

-- the number of bytes, the lowest first
abbrev pub number : List ℕ → ℕ
number [] = 0
number (byte ∷ bytes) = byte + 256 * number bytes

-- bytes are their number, added to the register before as many zeros
pub past-number : (bytes : List ℕ) (r : ℕ) → AreSmall 8 bytes
    → past bytes r ≡ past_zeros (length bytes) (bit_xor r (number bytes))
past-number [] r small = sym (zeros-none (bit_xor r 0) ∙ xor_zero_r r)
past-number (byte ∷ bytes) r small =
    let n : ℕ = length bytes in
    let rest : ℕ = number bytes in
    let count : suc n ≡ 1 + n = omega arith in
    let fits : byte < 2 ^ 8 = small.0 in
    let joined : bit_xor byte (rest * 2 ^ 8) ≡ byte + 256 * rest = xor_comm byte (rest * 2 ^ 8)
    ∙ xor_shifted rest 8 byte fits ∙ omega arith in
    past-number bytes (past_zeros 1 (bit_xor r byte)) small.1
    ∙ ap (λ (x : ℕ). past_zeros n (bit_xor (past_zeros 1 (bit_xor r byte)) x))
    (sym (zeros-shifted rest))
    ∙ ap (λ (x : ℕ). past_zeros n x) (sym (zeros-xor 1 (bit_xor r byte) (rest * 2 ^ 8)))
    ∙ sym (zeros-add 1 n (bit_xor (bit_xor r byte) (rest * 2 ^ 8)))
    ∙ ap (λ (m : ℕ). past_zeros m (bit_xor (bit_xor r byte) (rest * 2 ^ 8))) (sym count)
    ∙ ap (λ (x : ℕ). past_zeros (suc n) x)
    (xor_assoc r byte (rest * 2 ^ 8) ∙ ap (λ (x : ℕ). bit_xor r x) joined)
