-- What a process data telegram is.
use Rattle.std.specs.Prelude.{◌≡◌, ℕ, List}
use Rattle.trdp_head.specs.declared.pd.PdHead.{PdHead}
use Rattle.trdp_head.specs.Fields.{field}
use Rattle.trdp_head.specs.IsTelegram.{IsTelegram}
use Rattle.trdp_head.specs.PdHeads.{pd_prefix}
use Rattle.trdp_head.specs.Limits.{pd_telegram_limit}

-- the bytes are a telegram with this header and payload
pub record IsPdTelegram (bytes : List ℕ) (head : PdHead) (payload : List ℕ) : Type 0 where
  pub telegram : IsTelegram 40 pd_telegram_limit bytes (pd_prefix head) payload
  pub reply_com_id : field 28 4 bytes ≡ head.reply_com_id
  pub reply_ip : field 32 4 bytes ≡ head.reply_ip.0
