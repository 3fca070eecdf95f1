-- Numbers in bytes.
use Rattle.std.specs.Prelude.{◌≡◌, ◌<◌, ◌-◌, ◌/◌, ◌^◌, ℕ, ℤ, pos, negsuc}
use Rattle.std.specs.Prelude.{List, length, get_or, nat_lt, if◌then◌else◌}
use Rattle.byteorder.specs.Endian.{big_number}

-- each is a byte
abbrev pub IsBytes : List ℕ → Type 0
IsBytes bytes = (i : ℕ) → get_or bytes i 0 < 256

-- these are k bytes, and the number n is their big-endian value
abbrev pub IsNumber : ℕ → ℕ → List ℕ → Type 0
IsNumber k n bytes = (length bytes ≡ k) × IsBytes bytes × (big_number k bytes ≡ n)

-- the number that k bytes are as two's complement, where n is their big-endian value
unfoldable pub signed_number : ℕ → ℕ → ℤ
signed_number k n = if nat_lt n (256 ^ k / 2) then pos n else negsuc (256 ^ k - 1 - n)
