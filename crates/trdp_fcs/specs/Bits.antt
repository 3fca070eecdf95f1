-- Bits of numbers as lists. A bit is 0 or 1; a number's top bit is its highest, its bottom bit
-- its lowest.
use Rattle.std.specs.Prelude.{ℕ, zero, suc, ◌+◌, ◌-◌, ◌*◌, ◌/◌, ◌%◌}
use Rattle.std.specs.Prelude.{◌^◌, List, [], ◌∷◌, map, flat_map}

-- the lowest k bits of a number, the highest of them first
abbrev pub bits_from_top : ℕ → ℕ → List ℕ
bits_from_top zero number = []
bits_from_top (suc k) number = number / 2 ^ k % 2 ∷ bits_from_top k number

-- the lowest k bits of a number, the lowest first
abbrev pub bits_from_bottom : ℕ → ℕ → List ℕ
bits_from_bottom zero number = []
bits_from_bottom (suc k) number = number % 2 ∷ bits_from_bottom k (number / 2)

-- the number whose bits these are, the lowest first
abbrev pub number_from_bottom : List ℕ → ℕ
number_from_bottom [] = 0
number_from_bottom (b ∷ bs) = b + 2 * number_from_bottom bs

-- the bits of bytes in the order in which they are sent, the lowest of each byte first
abbrev pub message_bits : List ℕ → List ℕ
message_bits bytes = flat_map (λ byte. bits_from_bottom 8 byte) bytes

-- each bit inverted
abbrev pub inverted : List ℕ → List ℕ
inverted bs = map (λ b. 1 - b) bs
