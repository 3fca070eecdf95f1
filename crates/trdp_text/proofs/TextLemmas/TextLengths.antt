-- How long texts are.
-- For `put_hex`.
-- By induction on the bytes.
use Rattle.std.proofs.Common.{◌≡◌, ◌≤◌, ◌+◌, ◌*◌, ℕ, List, [], ◌∷◌, length, arith}
use Rattle.trdp_base.specs.HexText.{hex_pairs, text_of_hex}

pairs_length : (bytes : List ℕ) → length (hex_pairs bytes) ≡ 2 * length bytes
pairs_length [] = omega arith
pairs_length (byte ∷ bytes) = omega (arith, pairs_length bytes)

-- two digits for each byte, or a dash
pub hex_length : (bytes : List ℕ) → length (text_of_hex bytes) ≤ 1 + 2 * length bytes
hex_length [] = omega arith
hex_length (byte ∷ bytes) = omega (arith, pairs_length (byte ∷ bytes))
