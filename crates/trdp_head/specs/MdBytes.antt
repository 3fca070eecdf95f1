-- The written form of a message data telegram.
use Rattle.std.specs.Prelude.{ℕ, ◌+◌, ◌++◌, List, length}
use Rattle.std.specs.Int.{w32, cast_unsigned}
use Rattle.trdp_base.specs.Uris.{uri_field}
use Rattle.trdp_head.specs.declared.md.MdHead.{MdHead}
use Rattle.trdp_head.specs.Fields.{be_bytes}
use Rattle.trdp_head.specs.Prefixes.{prefix_bytes}
use Rattle.trdp_head.specs.MdHeads.{md_prefix}
use Rattle.trdp_head.specs.TelegramBytes.{rounded_of, telegram_bytes}

-- the length with n bytes of payload: the header, and n rounded up to a multiple of four
abbrev pub md_length_of : ℕ → ℕ
md_length_of n = 116 + rounded_of n

-- the header before its frame check, with n bytes of payload; the status is in two's complement
-- rule: telegram.layout
unfoldable pub md_head_bytes : MdHead → ℕ → List ℕ
md_head_bytes head n =
    prefix_bytes (md_prefix head) n
    ++ be_bytes 4 (cast_unsigned w32 head.status) ++ be_bytes 16 head.session.0
    ++ be_bytes 4 head.timeout ++ uri_field head.source_uri ++ uri_field head.dest_uri

-- the header with its frame check, the payload, and zeros up to a multiple of four
unfoldable pub md_bytes : MdHead → List ℕ → List ℕ
md_bytes head payload = telegram_bytes (md_head_bytes head (length payload)) payload
