-- Bytes and the pairs of digits that they are written as determine one another.
-- For `read_hex_into`, `push_hex` and `read_uri`, and for the loops over digits and pairs.
-- By induction on the bytes: a byte has two digits, and two digits are one byte's.
use Rattle.std.proofs.Common.{◌≡◌, ℕ, ◌+◌, ◌-◌, ◌*◌, ◌/◌, ◌%◌, ◌<◌, List, []}
use Rattle.std.proofs.Common.{◌∷◌, ◌++◌, length, get_or, drop, take, refl, sym}
use Rattle.std.proofs.Common.{ap, ◌∙◌, subst, inl, inr, arith, append_assoc}
use Rattle.std.specs.Prelude.{All, ◌⊎◌, ◌↔◌, ◌&&◌, Bool, true, false, IsTrue}
use Rattle.std.proofs.lemmas.Bool.{false≢true}
use Rattle.std.proofs.lemmas.Bool.Decides.{nat_tests}
use Rattle.std.proofs.lemmas.List.{take_more}
use Rattle.std.proofs.lemmas.List.Elements.{All-nil, All-cons, All-head, All-tail}
use Rattle.std.proofs.lemmas.List.Elements.{All-push, All-same}
use Rattle.trdp_base.specs.HexText.{hex_digit, hex_pairs, text_of_hex}
use Rattle.trdp_base.specs.HexText.{IsHexText, IsHexDigit, IsInPairs}

-- a byte
abbrev pub IsByte : ℕ → Type 0
IsByte byte = byte < 256

pub hex_pairs-append : (xs ys : List ℕ) → hex_pairs (xs ++ ys) ≡ hex_pairs xs ++ hex_pairs ys
hex_pairs-append [] ys = refl
hex_pairs-append (x ∷ xs) ys =
    ap (λ l. hex_digit (x / 16) ∷ hex_digit (x % 16) ∷ l) (hex_pairs-append xs ys)

pub length-hex_pairs : (xs : List ℕ) → length (hex_pairs xs) ≡ 2 * length xs
length-hex_pairs [] = refl
length-hex_pairs (x ∷ xs) = omega (arith, length-hex_pairs xs)

-- of bytes, one or more, the written form is the pairs
pub text_of_some : (bytes : List ℕ) → 0 < length bytes → text_of_hex bytes ≡ hex_pairs bytes
text_of_some [] some = absurd (omega (arith, some))
text_of_some (byte ∷ bytes) some = refl

-- the digit of a value below 16 is a digit
digit_is : (value : ℕ) → value < 16 → IsHexDigit (hex_digit value)
digit_is value small = grind (arith, nat_tests)

-- each digit is the digit of a value
digit_value : (digit : ℕ) → IsHexDigit digit → (value : ℕ)
    × (value < 16) × (hex_digit value ≡ digit)
digit_value digit (inl h) = (digit - 48, omega (arith, h.0, h.1), grind (arith, nat_tests))
digit_value digit (inr h) = (digit - 87, omega (arith, h.0, h.1), grind (arith, nat_tests))

-- two values have two digits
digit_alone : (a b : ℕ) → a < 16 → b < 16 → hex_digit a ≡ hex_digit b → a ≡ b
digit_alone a b small small' e = grind (arith, nat_tests)

-- the pairs of bytes are digits
pairs_digits : (bytes : List ℕ) → All IsByte bytes → All IsHexDigit (hex_pairs bytes)
pairs_digits [] fits = All-nil IsHexDigit
pairs_digits (byte ∷ bytes) fits =
    let small = All-head IsByte byte bytes fits in
    All-cons IsHexDigit _ (hex_digit (byte % 16) ∷ hex_pairs bytes)
    (digit_is (byte / 16) (omega (arith, small)))
    (All-cons IsHexDigit _ (hex_pairs bytes) (digit_is (byte % 16) (omega arith))
    (pairs_digits bytes (All-tail IsByte byte bytes fits)))

-- a written form is in pairs, or `-`
pub text_in_pairs : (bytes : List ℕ) → All IsByte bytes
    → (text_of_hex bytes ≡ 45 ∷ []) ⊎ IsInPairs (text_of_hex bytes)
text_in_pairs [] fits = inl refl
text_in_pairs (byte ∷ bytes) fits =
    let twice = length-hex_pairs (byte ∷ bytes) in
    inr (record {
      some = omega (arith, twice);
      even = omega (arith, twice);
      digits = pairs_digits (byte ∷ bytes) fits;
    })

-- the bytes of a text in pairs
bytes_exist : (text : List ℕ) → length text % 2 ≡ 0
    → All IsHexDigit text → (bytes : List ℕ) × All IsByte bytes × (text ≡ hex_pairs bytes)
bytes_exist [] even digits = ([], All-nil IsByte, refl)
bytes_exist (high ∷ []) even digits = absurd (omega (arith, even))
bytes_exist (high ∷ low ∷ text) even digits =
    let rest = bytes_exist text (omega (arith, even))
    (All-tail IsHexDigit low text (All-tail IsHexDigit high (low ∷ text) digits)) in
    let a = digit_value high (All-head IsHexDigit high (low ∷ text) digits) in
    let b = digit_value low
    (All-head IsHexDigit low text (All-tail IsHexDigit high (low ∷ text) digits)) in
    let byte = 16 * a.0 + b.0 in
    let front : byte / 16 ≡ a.0 = omega (arith, b.1) in
    let back : byte % 16 ≡ b.0 = omega (arith, b.1) in (
      byte ∷ rest.0,
      All-cons IsByte byte rest.0 (omega (arith, a.1, b.1)) rest.1,
      λ i. sym (ap hex_digit front ∙ a.2) i ∷ sym (ap hex_digit back ∙ b.2) i ∷ rest.2 i,
    )

-- a text in pairs is the written form of bytes
pub pairs_are_text : (text : List ℕ) → IsInPairs text → IsHexText text
pairs_are_text text pairs =
    let found = bytes_exist text pairs.even pairs.digits in
    let some : 0 < length found.0 =
    omega (arith, pairs.some, ap length found.2, length-hex_pairs found.0) in
    (found.0, found.1, found.2 ∙ sym (text_of_some found.0 some))

-- two lists of bytes have two lists of pairs
pub pairs_alone : (xs ys : List ℕ) → All IsByte xs
    → All IsByte ys → hex_pairs xs ≡ hex_pairs ys → xs ≡ ys
pairs_alone [] [] p q e = refl
pairs_alone [] (y ∷ ys) p q e = absurd (omega (arith, ap length e))
pairs_alone (x ∷ xs) [] p q e = absurd (omega (arith, ap length e))
pairs_alone (x ∷ xs) (y ∷ ys) p q e =
    let small = All-head IsByte x xs p in
    let small' = All-head IsByte y ys q in
    let high = digit_alone (x / 16) (y / 16) (omega (arith, small))
    (omega (arith, small')) (ap (λ l. get_or l 0 0) e) in
    let low =
    digit_alone (x % 16) (y % 16) (omega arith) (omega arith) (ap (λ l. get_or l 1 0) e) in
    let first : x ≡ y = omega (arith, high, low) in
    let rest =
    pairs_alone xs ys (All-tail IsByte x xs p) (All-tail IsByte y ys q) (ap (drop 2) e) in
    λ i. first i ∷ rest i

-- a text that is neither in pairs nor `-` is no written form
pub no_text : (text : List ℕ) → (text ≡ text_of_hex [] → ⊥)
    → (IsInPairs text → ⊥) → IsHexText text → ⊥
no_text text dash pairs hex =
    elim (text_in_pairs hex.0 hex.1) [
      | inl none ↦ dash (hex.2 ∙ none)
      | inr some ↦ pairs (subst IsInPairs (sym hex.2) some)
    ]

-- what was read of a text in pairs is what it was written from
pub read_alone : (text read bytes : List ℕ) → IsInPairs text → hex_pairs read ≡ text
    → All IsByte read → All IsByte bytes → text ≡ text_of_hex bytes → read ≡ bytes
read_alone text read [] pairs same p q e = absurd (omega (arith, pairs.even, ap length e))
read_alone text read (byte ∷ bytes) pairs same p q e =
    pairs_alone read (byte ∷ bytes) p q (same ∙ e)

-- one more character is looked at
pub digits_more : (good also : Bool) (text : List ℕ) (index : ℕ) → index < length text
    → (IsTrue good → All IsHexDigit (take index text)) → (All IsHexDigit text → IsTrue good)
    → (IsTrue also ↔ IsHexDigit (get_or text index 0))
    → (IsTrue (good && also) → All IsHexDigit (take (index + 1) text))
    × (All IsHexDigit text → IsTrue (good && also))
digits_more false also text index inside before all this =
    (λ no. absurd (false≢true no), λ digits. all digits)
digits_more true also text index inside before all this = (
  λ yes. All-same IsHexDigit _ _ (take_more text index 0 inside)
      (All-push IsHexDigit (take index text) (get_or text index 0) (before refl) (this.0 yes)),
  λ digits. this.1 (digits index 0 inside),
)

-- one more byte is written
pub push_more : (old out bytes : List ℕ) (index high low : ℕ)
    → index < length bytes → high ≡ hex_digit (get_or bytes index 0 / 16)
    → low ≡ hex_digit (get_or bytes index 0 % 16) → out ≡ old ++ hex_pairs (take index bytes)
    → (out ++ high ∷ []) ++ low ∷ [] ≡ old ++ hex_pairs (take (index + 1) bytes)
push_more old out bytes index high low inside first second before =
    let done = hex_pairs (take index bytes) in
    append_assoc out (high ∷ []) (low ∷ [])
    ∙ (λ i. before i ++ first i ∷ second i ∷ [])
    ∙ append_assoc old
    done (hex_digit (get_or bytes index 0 / 16) ∷ hex_digit (get_or bytes index 0 % 16) ∷ [])
    ∙ ap (λ l. old ++ l) (sym (ap hex_pairs (take_more bytes index 0 inside)
    ∙ hex_pairs-append (take index bytes) (get_or bytes index 0 ∷ [])))

-- one more pair is read
pub read_more : (bytes text : List ℕ) (index high low : ℕ)
    → 2 * index + 1 < length text → low < 16 → hex_digit high ≡ get_or text (2 * index) 0
    → hex_digit low ≡ get_or text (2 * index + 1) 0 → hex_pairs bytes ≡ take (2 * index) text
    → hex_pairs (bytes ++ (16 * high + low) ∷ []) ≡ take (2 * (index + 1)) text
read_more bytes text index high low inside small first second before =
    let byte = 16 * high + low in
    let front : byte / 16 ≡ high = omega (arith, small) in
    let back : byte % 16 ≡ low = omega (arith, small) in
    let twice : 2 * (index + 1) ≡ 2 * index + 1 + 1 = omega arith in
    let one : take (2 * index + 1) text ≡ take (2 * index) text ++ get_or text (2 * index) 0 ∷ [] =
    take_more text (2 * index) 0 (omega arith) in
    let two : take (2 * index + 1 + 1) text ≡ take (2 * index + 1) text
    ++ get_or text (2 * index + 1) 0 ∷ [] = take_more text (2 * index + 1) 0 inside in
    hex_pairs-append bytes (byte ∷ [])
    ∙ (λ i. before i ++ (ap hex_digit front ∙ first) i ∷ (ap hex_digit back ∙ second) i ∷ [])
    ∙ sym (append_assoc (take (2 * index) text)
    (get_or text (2 * index) 0 ∷ []) (get_or text (2 * index + 1) 0 ∷ []))
    ∙ ap (λ l. l ++ get_or text (2 * index + 1) 0 ∷ []) (sym one)
    ∙ sym two ∙ ap (λ n. take n text) (sym twice)
