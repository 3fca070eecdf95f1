-- Private to this crate: the division as its register of 32 bits does it, for the contracts of
-- src/register.rt; the frame check is defined without it. The register's lowest bit is the first
-- bit of the list that is divided; the divisor is without its first bit, that of x^31 lowest.
use Rattle.std.specs.Prelude.{ℕ, zero, suc, ◌*◌, ◌/◌, ◌%◌, ◌==◌}
use Rattle.std.specs.Prelude.{if◌then◌else◌, List, [], ◌∷◌, map, bit_xor}
use Rattle.std.specs.List.{range_with_len}

-- the register after one more bit of 0
abbrev pub step : ℕ → ℕ → ℕ
step divisor register = if register % 2 == 1 then bit_xor (register / 2) divisor else register / 2

-- the register after n more bits of 0
abbrev pub steps : ℕ → ℕ → ℕ → ℕ
steps divisor zero register = register
steps divisor (suc n) register = steps divisor n (step divisor register)

-- the register after n more bytes of 0
unfoldable pub past_zeros : ℕ → ℕ → ℕ
past_zeros n register = steps 0xEDB88320 (n * 8) register

-- the register after these bytes
abbrev pub past : List ℕ → ℕ → ℕ
past [] register = register
past (byte ∷ bytes) register = past bytes (past_zeros 1 (bit_xor register byte))

-- the register past n bytes of 0, from each byte
abbrev pub table : ℕ → List ℕ
table n = map (λ byte. past_zeros n byte) (range_with_len 0 256)

-- past one byte of 0, past two, and so on
abbrev pub tables : ℕ → List (List ℕ)
tables count = map table (range_with_len 1 count)
