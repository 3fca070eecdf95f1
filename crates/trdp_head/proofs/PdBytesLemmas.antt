-- A written process data telegram is read back.
-- For `write_pd`.
-- By `TelegramBytesLemmas` for what all headers begin with, and each further field at its place.
use Rattle.std.proofs.Common.{◌≡◌, ℕ, ◌^◌, ◌<◌, ◌≤◌, List, ◌++◌, length, refl, arith, ◌∙◌}
use Rattle.trdp_head.specs.declared.pd.PdHead.{PdHead}
use Rattle.trdp_head.specs.Fields.{field, be_bytes}
use Rattle.trdp_head.specs.PdHeads.{IsPdHead, pd_prefix}
use Rattle.trdp_head.specs.IsPdTelegram.{IsPdTelegram}
use Rattle.trdp_head.specs.PdBytes.{pd_head_bytes, pd_bytes}
use Rattle.trdp_head.proofs.FieldByteLemmas.{be-be_bytes}
use Rattle.trdp_head.proofs.TelegramBytesLemmas.{field-telegram, IsTelegram-telegram_bytes}

length-head : (head : PdHead) (n : ℕ) → length (pd_head_bytes head n) ≡ 36
unfolding pd_head_bytes be_bytes
length-head head n = refl

field-reply_com_id : (head : PdHead) (n : ℕ) → head.reply_com_id < 256 ^ 4
    → field 28 4 (pd_head_bytes head n) ≡ head.reply_com_id
unfolding pd_head_bytes be_bytes field
field-reply_com_id head n h = be-be_bytes 4 head.reply_com_id h

field-reply_ip : (head : PdHead) (n : ℕ) → head.reply_ip.0 < 256 ^ 4
    → field 32 4 (pd_head_bytes head n) ≡ head.reply_ip.0
unfolding pd_head_bytes be_bytes field
field-reply_ip head n h = be-be_bytes 4 head.reply_ip.0 h

-- what is written is read back
pub IsPdTelegram-pd_bytes : (head : PdHead) (payload : List ℕ)
    → IsPdHead head → length payload ≤ 1432 → IsPdTelegram (pd_bytes head payload) head payload
unfolding pd_bytes pd_head_bytes be_bytes
IsPdTelegram-pd_bytes head payload h limit =
    let n : ℕ = length payload in
    let header : List ℕ = pd_head_bytes head n in
    let more : List ℕ =
    be_bytes 4 0 ++ be_bytes 4 head.reply_com_id ++ be_bytes 4 head.reply_ip.0 in
    record {
      telegram = IsTelegram-telegram_bytes 40
          1472 (pd_prefix head) more header payload refl refl h.prefix (omega arith) (omega arith);
      reply_com_id = field-telegram 28 4 header payload (omega (arith, length-head head n))
          ∙ field-reply_com_id head n h.reply_com_id;
      reply_ip = field-telegram 32 4 header payload (omega (arith, length-head head n))
          ∙ field-reply_ip head n h.reply_ip;
    }
