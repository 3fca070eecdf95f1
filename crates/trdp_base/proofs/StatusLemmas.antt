-- A written status is a number, with a sign before it where it is below 0.
-- For `push_status` and `read_negative`.
-- By: no digit is a sign, and what follows one is the number's magnitude.
use Rattle.std.proofs.Common.{rules, to_z, of_z, ◌-ℤ◌, ◌≡◌, ℕ, ℤ, pos, negsuc, suc, ◌<◌}
use Rattle.std.proofs.Common.{◌≤◌, ◌^◌, List, ◌∷◌, length, get_or, drop, refl, ap, arith}
use Rattle.std.specs.Prelude.{FitsSigned}
use Rattle.std.specs.Int.{w32, w64}
use Rattle.std.proofs.lemmas.Fmt.{decimal_is_IsNumeral, length-decimal-le}
use Rattle.std.proofs.lemmas.Str.Parse.{digit_at}
use Rattle.trdp_base.specs.NumberText.{text_of_number}
use Rattle.trdp_base.specs.StatusText.{text_of_status}

-- a written number begins with a digit
no_minus : (number : ℕ) (digits : List ℕ) → number < 2 ^ 64
    → 45 ∷ digits ≡ text_of_number number → ⊥
no_minus number digits small e =
    let long : 0 < length (text_of_number number) = omega (arith, ap length e) in
    let digit = digit_at (text_of_number number) 0 (decimal_is_IsNumeral number small).0.1 long in
    omega (arith, digit.0, ap (λ l. get_or l 0 0) e)

-- a text that begins with `-` is the written form of a status below 0 only
pub below_zero : (digits : List ℕ) (status : ℤ)
    → FitsSigned w32 status → 45 ∷ digits ≡ text_of_status status
    → (less : ℕ)
    × (status ≡ negsuc less) × (digits ≡ text_of_number (suc less)) × (suc less ≤ 2 ^ 31)
below_zero digits (pos number) fits e =
    absurd (no_minus number digits (omega (arith, fits.sfits)) e)
below_zero digits (negsuc less) fits e = (less, refl, ap (drop 1) e, omega (arith, fits.sfits))

-- the digits of a status are 10 at most
pub length-text_of_magnitude : (number : ℕ) → number ≤ 2 ^ 31 → length (text_of_number number) ≤ 10
length-text_of_magnitude number small =
    length-decimal-le 10 number (omega arith) (omega arith) (omega arith)

-- the casts of the code keep a number below 0
pub negated : (less : ℕ) → suc less ≤ 2 ^ 31
    → to_z w32 (of_z w32 (to_z w64 (of_z w64 (pos 0 -ℤ to_z w64 (suc less))))) ≡ negsuc less
negated less small = search rules
