-- The frame check of a header, which follows the bytes that it covers.
use Rattle.std.specs.Prelude.{ℕ, ◌==◌, Bool, List, ◌++◌, take}
use Rattle.trdp_fcs.specs.FrameCheck.{frame_check_of}
use Rattle.trdp_head.specs.Fields.{little_field, le_bytes}

-- the four bytes at an offset are the frame check of all bytes before them, least significant byte
-- first
-- rule: telegram.check
unfoldable pub is_checked : ℕ → List ℕ → Bool
is_checked offset bytes = little_field offset 4 bytes == frame_check_of (take offset bytes)

-- the bytes and their frame check, least significant byte first
unfoldable pub with_check : List ℕ → List ℕ
with_check bytes = bytes ++ le_bytes 4 (frame_check_of bytes)
