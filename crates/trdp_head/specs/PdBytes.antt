-- The written form of a process data telegram.
use Rattle.std.specs.Prelude.{ℕ, ◌+◌, ◌++◌, List, length}
use Rattle.trdp_head.specs.declared.pd.PdHead.{PdHead}
use Rattle.trdp_head.specs.Fields.{be_bytes}
use Rattle.trdp_head.specs.Prefixes.{prefix_bytes}
use Rattle.trdp_head.specs.PdHeads.{pd_prefix}
use Rattle.trdp_head.specs.TelegramBytes.{rounded_of, telegram_bytes}

-- the length with n bytes of payload: the header, and n rounded up to a multiple of four
abbrev pub pd_length_of : ℕ → ℕ
pd_length_of n = 40 + rounded_of n

-- the header before its frame check, with n bytes of payload
-- rule: telegram.layout
unfoldable pub pd_head_bytes : PdHead → ℕ → List ℕ
pd_head_bytes head n =
    prefix_bytes (pd_prefix head) n ++ be_bytes 4 0
    ++ be_bytes 4 head.reply_com_id ++ be_bytes 4 head.reply_ip.0

-- the header with its frame check, the payload, and zeros up to a multiple of four
unfoldable pub pd_bytes : PdHead → List ℕ → List ℕ
pd_bytes head payload = telegram_bytes (pd_head_bytes head (length payload)) payload
