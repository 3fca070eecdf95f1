-- A text of digits with no needless zero is the written form of one number.
-- For `number_of`, `push_number`, and the numbers of addresses and places.
-- By: one digit more makes the number ten times as much and adds the digit, read or written.
use Rattle.std.proofs.Common.{◌≡◌, ℕ, ◌+◌, ◌-◌, ◌*◌, ◌/◌, ◌%◌, ◌^◌, ◌<◌, ◌≤◌, List, [], ◌∷◌}
use Rattle.std.proofs.Common.{◌++◌, length, length-append, take, get_or, sym}
use Rattle.std.proofs.Common.{ap, ◌∙◌, subst, inl, inr, arith}
use Rattle.std.specs.Prelude.{decimal}
use Rattle.std.specs.Str.Parse.{AllDigits, digits_value}
use Rattle.std.proofs.lemmas.Bool.{cases_lt}
use Rattle.std.proofs.lemmas.Fmt.{decimal_digit, decimal_step, first_decimal}
use Rattle.std.proofs.lemmas.Fmt.{decimal-digits_value, decimal_is_IsNumeral, length-decimal-le}
use Rattle.std.proofs.lemmas.Int.Digits.{digits_more, digits_value_more}
use Rattle.std.proofs.lemmas.List.{take_all}
use Rattle.std.proofs.lemmas.Str.{digit_value_digit}
use Rattle.std.proofs.lemmas.Str.Parse.{numerals_by_value, tells_digits, digit_at}
use Rattle.std.proofs.lemmas.Str.Parse.{digits_value-take-le}
use Rattle.trdp_base.specs.NumberText.{text_of_number, HasNeedlessZero}

-- the digits up to there, of which there may be none: they are digits, and this is their number
pub record IsReadTo (text : List ℕ) (count number : ℕ) : Type 0 where
  pub digits : AllDigits 10 (take count text)
  pub value : number ≡ digits_value 10 (take count text)

-- a digit is read
pub read_one_more : (text : List ℕ) (count number more : ℕ) → count < length text
    → 48 ≤ get_or text count 0 → get_or text count 0 ≤ 57
    → more ≡ number * 10 + (get_or text count 0 - 48)
    → IsReadTo text count number → IsReadTo text (count + 1) more
read_one_more text count number more inside low high is before =
    let digit = digit_value_digit (get_or text count 0) (low, high) in
    record {
      digits = digits_more 10 text count inside before.digits (omega (arith, digit, high));
      value = omega (arith, digits_value_more 10 text count inside, digit, before.value, is);
    }

-- digits with no needless zero are the written form of their number
pub written_of_read : (text : List ℕ) (count number : ℕ) → 0 < length text
    → (HasNeedlessZero text → ⊥) → length text ≤ count → number < 2 ^ 64
    → IsReadTo text count number → text ≡ text_of_number number
written_of_read text count number some plain all small read =
    let whole : take count text ≡ text = take_all count text all in
    let digits = subst (AllDigits 10) whole read.digits in
    let value : number ≡ digits_value 10 text = read.value ∙ ap (digits_value 10) whole in
    let only : get_or text 0 0 ≡ 48 → length text ≡ 1 = λ zero.
    elim (cases_lt 1 (length text))
    [ inl more ↦ absurd (plain (zero, more)) | inr one ↦ omega (arith, some, one) ] in
    sym (decimal-digits_value (numerals_by_value _ tells_digits) text digits some only
    (omega (arith, value, small))) ∙ ap text_of_number (sym value)

-- a written number has a digit, and no needless zero
pub written_some : (text : List ℕ) (number : ℕ)
    → number < 2 ^ 64 → text ≡ text_of_number number → 0 < length text
written_some text number small e =
    omega (arith, ap length e, (decimal_is_IsNumeral number small).0.0)

pub written_plain : (text : List ℕ) (number : ℕ)
    → number < 2 ^ 64 → text ≡ text_of_number number → HasNeedlessZero text → ⊥
written_plain text number small e needless =
    let zero : get_or (text_of_number number) 0 0 ≡ 48 =
    ap (λ l. get_or l 0 0) (sym e) ∙ needless.0 in
    elim (cases_lt 0 number) [
      | inl above ↦ omega (arith, first_decimal number above small, zero)
      | inr below ↦
          let none : number ≡ 0 = omega arith in
          let long = ap length (e ∙ ap text_of_number none ∙ decimal_digit 0 (omega arith)) in
          omega (arith, needless.1, long)
    ]

-- each character of a written number is a digit
pub written_digits : (text : List ℕ) (number count : ℕ) → number < 2 ^ 64
    → text ≡ text_of_number number → count < length text
    → (48 ≤ get_or text count 0) × (get_or text count 0 ≤ 57)
written_digits text number count small e inside =
    digit_at text count
    (subst (AllDigits 10) (sym e) (decimal_is_IsNumeral number small).0.1) inside

-- the digits of a written number have it as their number
written_value : (text : List ℕ) (number : ℕ)
    → number < 2 ^ 64 → text ≡ text_of_number number → digits_value 10 text ≡ number
written_value text number small e =
    ap (digits_value 10) e ∙ (decimal_is_IsNumeral number small).1

-- so that it is what was read of them all
pub read_value : (text : List ℕ) (count read number : ℕ) → number < 2 ^ 64
    → text ≡ text_of_number number → length text ≤ count → IsReadTo text count read → read ≡ number
read_value text count read number small e all digits =
    digits.value ∙ ap (digits_value 10) (take_all count text all)
    ∙ written_value text number small e

-- no front of a written number is more than it
pub written_front : (text : List ℕ) (number count front : ℕ) → number < 2 ^ 64
    → text ≡ text_of_number number → count < length text → IsReadTo text count front
    → front * 10 + (get_or text count 0 - 48) ≤ number
written_front text number count front small e inside read =
    let digit = digit_value_digit _ (written_digits text number count small e inside) in
    omega (
      arith,
      digits_value_more 10 text count inside,
      digit,
      read.value,
      digits_value-take-le 10 text (count + 1) (omega arith),
      written_value text number small e,
    )

-- a number of 64 bits has at most 20 digits
pub length-text_of_number : (number : ℕ) → number < 2 ^ 64 → length (text_of_number number) ≤ 20
length-text_of_number number small = length-decimal-le 20 number (omega arith) (omega arith) small

-- one digit is the whole written form
pub written_digit : (number digit : ℕ) → number < 10 → digit ≡ 48 + number % 10
    → text_of_number number ≡ digit ∷ []
written_digit number digit one is =
    decimal_digit number one ∙ ap (λ d. d ∷ []) (omega (arith, is))

-- the last digit follows the written form of what is before it
pub written_last : (number digit : ℕ) → 10 ≤ number → number < 2 ^ 64 → digit ≡ 48 + number % 10
    → text_of_number number ≡ text_of_number (number / 10) ++ digit ∷ []
written_last number digit more small is =
    decimal_step number more small
    ∙ ap (λ d. text_of_number (number / 10) ++ d ∷ []) (sym is)

pub length-written_more : (number : ℕ) → 10 ≤ number → number < 2 ^ 64
    → length (text_of_number number) ≡ length (text_of_number (number / 10)) + 1
length-written_more number more small =
    ap length (decimal_step number more small) ∙ length-append (decimal (number / 10)) _

-- a byte has at most three digits
pub length-text_of_octet : (number : ℕ) → number < 2 ^ 8 → length (text_of_number number) ≤ 3
length-text_of_octet number small =
    length-decimal-le 3 number (omega arith) (omega arith) (omega arith)

-- a port has at most five digits
pub length-text_of_port : (number : ℕ) → number < 2 ^ 16 → length (text_of_number number) ≤ 5
length-text_of_port number small =
    length-decimal-le 5 number (omega arith) (omega arith) (omega arith)
