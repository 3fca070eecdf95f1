-- Numbers at their offsets in a header, and as bytes.
use Rattle.std.specs.Prelude.{ℕ, zero, suc, ◌/◌, ◌%◌, ◌^◌, List, [], ◌∷◌, take, drop, reverse}
use Rattle.trdp_base.specs.Numbers.{be, le}

-- the big-endian number in the n bytes at an offset
unfoldable pub field : ℕ → ℕ → List ℕ → ℕ
field offset n bytes = be (take n (drop offset bytes))

-- the little-endian number in the n bytes at an offset
unfoldable pub little_field : ℕ → ℕ → List ℕ → ℕ
little_field offset n bytes = le (take n (drop offset bytes))

-- the n bytes of a number, big-endian
unfoldable pub be_bytes : ℕ → ℕ → List ℕ
be_bytes zero number = []
be_bytes (suc n) number = number / 256 ^ n % 256 ∷ be_bytes n number

-- the n bytes of a number, little-endian
unfoldable pub le_bytes : ℕ → ℕ → List ℕ
le_bytes n number = reverse (be_bytes n number)
