-- A register that differs once differs for ever, so that one changed byte changes the check.
-- For `one_byte_changes_the_check`, and through it for that of damaged headers.
-- By: a step is one-to-one where the divisor's highest bit is 1, so the same bytes keep it apart.
use Rattle.std.proofs.Common.{lit<, ◌≡◌, ◌≢◌, ℕ, zero, suc, ◌-◌, ◌*◌, ◌/◌, ◌^◌, ◌<◌, ◌≤◌}
use Rattle.std.proofs.Common.{List, [], ◌∷◌, ◌++◌, map, sym, ap, ◌∙◌, arith, bit_xor}
use Rattle.std.proofs.Common.{inl, inr}
use Rattle.std.proofs.lemmas.List.{map-append}
use lib.Bits.{xor_zero_r, xor_assoc, xor_comm, xor_self, xor_lt}
use Rattle.trdp_fcs.specs.FrameCheck.{frame_check_of}
use Rattle.trdp_fcs.specs.Register.{step, steps, past_zeros, past}
use Rattle.trdp_fcs.specs.Damage.{DifferInOneByte}
use Rattle.trdp_fcs.proofs.DivisionLemmas.{AreSmall, step-fits, steps-fit}
use Rattle.trdp_fcs.proofs.ZeroLemmas.{parity, zeros-xor}
use Rattle.trdp_fcs.proofs.PieceLemmas.{low, low-is_small, register, register-lt, register-inverted}
use Rattle.trdp_fcs.proofs.PieceLemmas.{past-append}

-- numbers whose sum is 0 are the same
xor-none : (a b : ℕ) → bit_xor a b ≡ 0 → a ≡ b
xor-none a b none =
    sym (xor_zero_r a)
    ∙ ap (λ (x : ℕ). bit_xor a x) (sym (xor_self b))
    ∙ sym (xor_assoc a b b)
    ∙ ap (λ (x : ℕ). bit_xor x b) none
    ∙ xor_comm 0 b
    ∙ xor_zero_r b

-- one step leads to 0 from 0 alone, where the divisor has the highest bit
step-kernel : (k d x : ℕ) → 2 ^ k ≤ d → x < 2 ^ suc k → step d x ≡ 0 → x ≡ 0
step-kernel k d x top fits none = elim (parity x) [
  | inl even ↦ let h : x / 2 ≡ 0 = rw even at none in omega (arith, h, even)
  | inr odd ↦
      let h : bit_xor (x / 2) d ≡ 0 = rw odd at none in
      let same : x / 2 ≡ d = xor-none (x / 2) d h in
      absurd (omega (arith, same, top, fits))
]

-- and so do many steps
steps-kernel : (n k d x : ℕ) → 2 ^ k ≤ d → d < 2 ^ suc k → x < 2 ^ suc k
    → steps d n x ≡ 0 → x ≡ 0
steps-kernel zero k d x top fits small none = none
steps-kernel (suc n) k d x top fits small none =
    step-kernel k d x top small
    (steps-kernel n k d (step d x) top fits (step-fits (suc k) x d small fits) none)

-- so zeros keep registers apart
zeros-apart : (n a b : ℕ) → a < 2 ^ 32 → b < 2 ^ 32 → past_zeros n a ≡ past_zeros n b → a ≡ b
unfolding past_zeros
zeros-apart n a b fa fb same =
    let sum : past_zeros n (bit_xor a b) ≡ 0 =
    zeros-xor n a b ∙ ap (λ (x : ℕ). bit_xor x (past_zeros n b)) same ∙ xor_self (past_zeros n b) in
    xor-none a b (steps-kernel (n * 8) 31 0xEDB88320 (bit_xor a b) (omega arith) (omega arith)
    (xor_lt 32 a b fa fb) sum)

-- and leave them in 32 bits
zeros-fit : (n a : ℕ) → a < 2 ^ 32 → past_zeros n a < 2 ^ 32
unfolding past_zeros
zeros-fit n a fa = steps-fit (n * 8) 32 a 0xEDB88320 fa (lit< tt)

-- sums with one number are apart where their terms are
xor-apart : (a b x : ℕ) → bit_xor a x ≡ bit_xor b x → a ≡ b
xor-apart a b x same =
    let back : (c : ℕ) → bit_xor (bit_xor c x) x ≡ c = λ c. xor_assoc c x x
    ∙ ap (λ (y : ℕ). bit_xor c y) (xor_self x) ∙ xor_zero_r c in
    sym (back a) ∙ ap (λ (y : ℕ). bit_xor y x) same ∙ back b

-- a byte is no more than a register holds
byte_fits : (x : ℕ) → x < 256 → x < 2 ^ 32
byte_fits x fits = omega arith

-- the same bytes lead apart registers apart
past-apart : (xs : List ℕ) (r s : ℕ) → AreSmall 8 xs → r < 2 ^ 32 → s < 2 ^ 32
    → past xs r ≡ past xs s → r ≡ s
past-apart [] r s small fr fs same = same
past-apart (x ∷ xs) r s small fr fs same =
    let fx : x < 2 ^ 32 = byte_fits x small.0 in
    let a : ℕ = bit_xor r x in
    let b : ℕ = bit_xor s x in
    let fa : a < 2 ^ 32 = xor_lt 32 r x fr fx in
    let fb : b < 2 ^ 32 = xor_lt 32 s x fs fx in
    let next = past-apart xs (past_zeros 1 a) (past_zeros 1 b) small.1 (zeros-fit 1 a fa)
    (zeros-fit 1 b fb) same in
    xor-apart r s x (zeros-apart 1 a b fa fb next)

-- other bytes lead one register apart
one_past : (back : List ℕ) (one other r : ℕ) → AreSmall 8 back → one < 256 → other < 256
    → r < 2 ^ 32 → past (one ∷ back) r ≡ past (other ∷ back) r → one ≡ other
one_past back one other r small fo ft fr same =
    let a : ℕ = bit_xor r one in
    let b : ℕ = bit_xor r other in
    let fa : a < 2 ^ 32 = xor_lt 32 r one fr (byte_fits one fo) in
    let fb : b < 2 ^ 32 = xor_lt 32 r other fr (byte_fits other ft) in
    let next = past-apart back (past_zeros 1 a) (past_zeros 1 b) small (zeros-fit 1 a fa)
    (zeros-fit 1 b fb) same in
    let sums : a ≡ b = zeros-apart 1 a b fa fb next in
    xor-apart one other r (xor_comm one r ∙ sums ∙ xor_comm r other)

-- one changed byte changes the check
pub one_byte_changes_check : (first second : List ℕ) → DifferInOneByte first second
    → frame_check_of first ≢ frame_check_of second
one_byte_changes_check first second d same =
    d.differ (one_past (map low d.back) d.one d.other (register d.front) (low-is_small d.back)
    d.one_byte d.other_byte (register-lt d.front)
    (sym (split d.one d.one_byte) ∙ registers ∙ split d.other d.other_byte))
  where
    -- the register past such a list goes on from the one past its front
    split : (x : ℕ) → x < 256
        → register (d.front ++ x ∷ d.back) ≡ past (x ∷ map low d.back) (register d.front)
    split x fits =
        let own : low x ≡ x = omega arith in
        ap (λ (xs : List ℕ). past xs 4294967295) (map-append low d.front (x ∷ d.back))
        ∙ past-append (map low d.front) (low x ∷ map low d.back) 4294967295
        ∙ ap (λ (y : ℕ). past (y ∷ map low d.back) (register d.front)) own

    -- equal checks are those of equal registers
    registers : register (d.front ++ d.one ∷ d.back) ≡ register (d.front ++ d.other ∷ d.back)
    registers =
        let checks : 4294967295 - register (d.front ++ d.one ∷ d.back)
        ≡ 4294967295 - register (d.front ++ d.other ∷ d.back) =
        register-inverted (d.front ++ d.one ∷ d.back)
        ∙ ap frame_check_of (sym d.first_is) ∙ same ∙ ap frame_check_of d.second_is
        ∙ sym (register-inverted (d.front ++ d.other ∷ d.back)) in
        let a = register-lt (d.front ++ d.one ∷ d.back) in
        let b = register-lt (d.front ++ d.other ∷ d.back) in
        omega (arith, checks, a, b)
