-- The frame check sequence of IEEE 802.3.
use Rattle.std.specs.Prelude.{ℕ, ◌*◌, List, ◌++◌, length, replicate}
use Rattle.trdp_fcs.specs.Bits.{bits_from_top, number_from_bottom, message_bits, inverted}
use Rattle.trdp_fcs.specs.Division.{add_front, divide}

-- the generator, from x^32 down to 1: the standard writes it as the number 0x104C11DB7
abbrev pub generator : List ℕ
generator = bits_from_top 33 0x104C11DB7

-- the message and 32 zeros, the first 32 bits inverted, divided until 32 bits are left, and these
-- inverted; the first of them, that of x^31, is the number's lowest bit
-- rule: telegram.crc
unfoldable pub frame_check_of : List ℕ → ℕ
frame_check_of bytes =
    number_from_bottom (inverted (divide generator (8 * length bytes)
    (add_front (replicate 32 1) (message_bits bytes ++ replicate 32 0))))
