-- The written form of a reply's status.
use Rattle.std.specs.Prelude.{ℕ, ℤ, List}
use Rattle.std.specs.Fmt.{signed_decimal}

-- the decimal digits without leading zeros, after `-` for a number below 0
-- rule: text.status
abbrev pub text_of_status : ℤ → List ℕ
text_of_status status = signed_decimal status

-- the length of the longest written status, -2147483648
abbrev pub status_length : ℕ
status_length = 11
