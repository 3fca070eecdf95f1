-- The written form that the telegrams of process data and message data have in common.
use Rattle.std.specs.Prelude.{ℕ, ◌+◌, ◌-◌, ◌*◌, ◌/◌, ◌++◌, List, length, replicate}
use Rattle.trdp_head.specs.Checks.{with_check}

-- a number of bytes rounded up to a multiple of four
-- rule: telegram.padding
abbrev pub rounded_of : ℕ → ℕ
rounded_of n = (n + 3) / 4 * 4

-- the zeros after n bytes of payload
abbrev pub padding_of : ℕ → List ℕ
padding_of n = replicate (rounded_of n - n) 0

-- the header with its frame check, the payload, and zeros up to a multiple of four
-- rule: telegram.written
unfoldable pub telegram_bytes : List ℕ → List ℕ → List ℕ
telegram_bytes header payload = with_check header ++ payload ++ padding_of (length payload)
