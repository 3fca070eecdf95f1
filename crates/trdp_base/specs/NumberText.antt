-- The written form of numbers.
use Rattle.std.specs.Prelude.{◌≡◌, ℕ, ◌<◌, List, length, slice_index, decimal}

-- the decimal digits of a number, the highest first, without leading zeros
-- rule: text.number
abbrev pub text_of_number : ℕ → List ℕ
text_of_number number = decimal number

-- the length of the longest written number of 64 bits, 18446744073709551615
abbrev pub number_length : ℕ
number_length = 20

-- a zero with more after it
abbrev pub HasNeedlessZero : List ℕ → Type 0
HasNeedlessZero text = (slice_index text 0 ≡ 48) × (1 < length text)
