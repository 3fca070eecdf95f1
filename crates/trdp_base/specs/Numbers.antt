-- Numbers in bytes.
use Rattle.std.specs.Prelude.{ℕ, ◌+◌, ◌*◌, ◌^◌, List, [], ◌∷◌, length, reverse}

-- the big-endian value of bytes: each byte times 256 to the power of its distance from the end
abbrev pub be : List ℕ → ℕ
be [] = 0
be (byte ∷ bytes) = byte * 256 ^ length bytes + be bytes

-- the little-endian value of bytes: the big-endian value of the reversed list
abbrev pub le : List ℕ → ℕ
le bytes = be (reverse bytes)
