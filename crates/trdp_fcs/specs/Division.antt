-- Division of bits, the first the highest, where a bit is subtracted without a carry.
use Rattle.std.specs.Prelude.{ℕ, zero, suc, ◌==◌, if◌then◌else◌, List, [], ◌∷◌, drop, bit_xor}

-- the second list, with the bits of the first added to its first bits without a carry
abbrev pub add_front : List ℕ → List ℕ → List ℕ
add_front [] bs = bs
add_front (a ∷ rest) [] = []
add_front (a ∷ rest) (b ∷ bs) = bit_xor a b ∷ add_front rest bs

-- so often: where the first bit is 1, the divisor is subtracted; then the first bit, which is 0,
-- is dropped
abbrev pub divide : List ℕ → ℕ → List ℕ → List ℕ
divide divisor zero bs = bs
divide divisor (suc n) [] = []
divide divisor (suc n) (b ∷ bs) =
    divide divisor n (drop 1 (if b == 1 then add_front divisor (b ∷ bs) else b ∷ bs))
