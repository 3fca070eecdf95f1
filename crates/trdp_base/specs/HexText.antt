-- The written form of bytes.
use Rattle.std.specs.Prelude.{◌≡◌, ℕ, ◌+◌, ◌/◌, ◌%◌, ◌<◌, ◌≤◌, ◌⊎◌, List, []}
use Rattle.std.specs.Prelude.{◌∷◌, length, codes, nat_lt, if◌then◌else◌, All}

-- the character of a hexadecimal digit: `0` to `9`, then `a` to `f`
abbrev pub hex_digit : ℕ → ℕ
hex_digit digit = if nat_lt digit 10 then 48 + digit else 87 + digit

-- two digits for each byte, the higher first
abbrev pub hex_pairs : List ℕ → List ℕ
hex_pairs [] = []
hex_pairs (byte ∷ bytes) = hex_digit (byte / 16) ∷ hex_digit (byte % 16) ∷ hex_pairs bytes

-- the digits in pairs, or `-` for no bytes
-- rule: text.hex
abbrev pub text_of_hex : List ℕ → List ℕ
text_of_hex [] = codes "-"
text_of_hex (byte ∷ bytes) = hex_pairs (byte ∷ bytes)

-- the text is the written form of some bytes
abbrev pub IsHexText : List ℕ → Type 0
IsHexText text = (bytes : List ℕ) × All (λ byte. byte < 256) bytes × (text ≡ text_of_hex bytes)

-- the character is one of `0` to `9` and `a` to `f`
abbrev pub IsHexDigit : ℕ → Type 0
IsHexDigit digit = ((48 ≤ digit) × (digit ≤ 57)) ⊎ ((97 ≤ digit) × (digit ≤ 102))

-- hexadecimal digits in pairs, one pair or more
pub record IsInPairs (text : List ℕ) : Type 0 where
  pub some : 0 < length text
  pub even : length text % 2 ≡ 0
  pub digits : All IsHexDigit text
