-- What a message data telegram is.
use Rattle.std.specs.Prelude.{◌≡◌, ℕ, List}
use Rattle.std.specs.Int.{w32, cast_signed}
use Rattle.trdp_head.specs.declared.md.MdHead.{MdHead}
use Rattle.trdp_head.specs.Fields.{field}
use Rattle.trdp_head.specs.IsTelegram.{IsTelegram}
use Rattle.trdp_head.specs.MdHeads.{md_prefix, uri_in}
use Rattle.trdp_head.specs.Limits.{md_telegram_limit}

-- the bytes are a telegram with this header and payload; what follows the first zero byte of a URI
-- is not looked at
-- rule: telegram.verbatim
pub record IsMdTelegram (bytes : List ℕ) (head : MdHead) (payload : List ℕ) : Type 0 where
  pub telegram : IsTelegram 116 md_telegram_limit bytes (md_prefix head) payload
  pub status : cast_signed w32 (field 24 4 bytes) ≡ head.status
  pub session : field 28 16 bytes ≡ head.session.0
  pub timeout : field 44 4 bytes ≡ head.timeout
  pub source_uri : uri_in 48 bytes ≡ head.source_uri
  pub dest_uri : uri_in 80 bytes ≡ head.dest_uri
