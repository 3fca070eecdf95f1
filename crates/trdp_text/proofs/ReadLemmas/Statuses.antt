-- Facts on the statuses that words are the written forms of.
-- For `status_of`.
-- By cases: below 0 the word begins with a dash, and else it is the digits of a number.
use Rattle.std.proofs.Common.{◌≡◌, ℕ, ℤ, pos, negsuc, neg_ℤ, int_lt, int_le, suc, ◌^◌, ◌-◌, ◌==◌}
use Rattle.std.proofs.Common.{true, false, List, [], ◌∷◌, Some, None, refl, sym, ap, ◌∙◌, arith}
use Rattle.std.specs.Prelude.{FitsSigned}
use Rattle.std.specs.Int.{w32}
use Rattle.std.specs.Str.Parse.{AllDigits, digits_value}
use Rattle.std.proofs.lemmas.Bool.{and_from, and_parts, le-leb, leb-true, lt-ltb, ltb-true}
use Rattle.std.proofs.lemmas.Bool.Decides.{nat_tests}
use Rattle.std.proofs.lemmas.Fmt.{decimal_is_IsNumeral}
use Rattle.std.proofs.lemmas.Str.Parse.{digit_from_value}
use Rattle.trdp_base.specs.NumberText.{text_of_number}
use Rattle.trdp_base.specs.StatusText.{text_of_status}
use Rattle.trdp_text.specs.Words.{is_status, status_of_word, status_shown}
use Rattle.trdp_text.proofs.ReadLemmas.Fields.{number_shown, unwritten, written}

-- digits show a number that is not below 0
digits_show : (word : List ℕ) → AllDigits 10 word → status_shown word ≡ pos (digits_value 10 word)
unfolding status_shown
digits_show [] all = refl
digits_show (byte ∷ bytes) all =
    let digit = digit_from_value byte all.0 in
    let other : (byte == 45) ≡ false = grind (arith, nat_tests) in
    rw other refl

-- a written status shows it
status_is_shown : (status : ℤ) → FitsSigned w32 status
    → status_shown (text_of_status status) ≡ status
unfolding status_shown
status_is_shown (pos number) fits =
    let facts = decimal_is_IsNumeral number (omega (arith, fits.sfits)) in
    digits_show (text_of_number number) facts.0.1 ∙ ap pos facts.1
status_is_shown (negsuc less) fits =
    ap (λ (n : ℕ). neg_ℤ (pos n)) (number_shown (suc less) (omega (arith, fits.sfits)))

-- a status passes the test for one
status_passes : (status : ℤ) → FitsSigned w32 status → is_status status ≡ true
status_passes (pos number) fits = and_from _ _ refl (lt-ltb number (2 ^ 31) fits.sfits)
status_passes (negsuc less) fits =
    and_from _ _ (le-leb less (2 ^ 31 - 1) (omega (arith, fits.sfits))) refl

-- what passes the test for a status is one
passed_status : (status : ℤ) → is_status status ≡ true → FitsSigned w32 status
passed_status (pos number) pass =
    let both = and_parts (int_le (neg_ℤ (pos (2 ^ 31))) (pos number))
    (int_lt (pos number) (pos (2 ^ 31))) pass in
    record { sfits = ltb-true number (2 ^ 31) both.1 }
passed_status (negsuc less) pass =
    let both = and_parts (int_le (neg_ℤ (pos (2 ^ 31))) (negsuc less))
    (int_lt (negsuc less) (pos (2 ^ 31))) pass in
    let within = leb-true less (2 ^ 31 - 1) both.0 in
    record { sfits = omega (arith, within) }

pub status_found : (word : List ℕ) (status : ℤ)
    → FitsSigned w32 status → word ≡ text_of_status status → Some status ≡ status_of_word word
unfolding status_of_word
status_found word status fits is =
    let shown : status_shown word ≡ status = ap status_shown is ∙ status_is_shown status fits in
    rw shown
    (sym (written text_of_status word (is_status status) status (status_passes status fits) is))

pub status_lacks : (word : List ℕ)
    → ((status : ℤ) → FitsSigned w32 status → word ≡ text_of_status status → ⊥)
    → None ≡ status_of_word word
unfolding status_of_word
status_lacks word never =
    sym (unwritten text_of_status word _ (status_shown word)
    (λ stands is. never (status_shown word) (passed_status _ stands) is))
