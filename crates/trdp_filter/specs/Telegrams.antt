-- Telegrams as they reach the objects of a slot, apart from where their bytes are.
use Rattle.std.specs.Prelude.{ℕ, List, length, ◌≤◌}
use Rattle.trdp_base.specs.declared.place.Place.{Place}
use Rattle.trdp_head.specs.PdTelegrams.{PdTelegram}
use Rattle.trdp_head.specs.MdTelegrams.{MdTelegram}
use Rattle.trdp_filter.specs.declared.telegram.Telegram.{Telegram}
use Rattle.trdp_filter.specs.declared.telegram.Telegram.TheVariants.{Pd, Md}
use Rattle.trdp_base.specs.Limits.{md_payload_limit}
use Rattle.trdp_head.specs.Limits.{pd_payload_limit}

-- a telegram with the socket addresses that its datagram came from and was sent to
pub data TelegramModel : Type 0 where
  PdIs : (src dst : Place) (telegram : PdTelegram) → TelegramModel
  MdIs : (src dst : Place) (telegram : MdTelegram) → TelegramModel

-- a telegram, apart from where its payload is
abbrev pub telegram_model : Telegram → TelegramModel
telegram_model (Pd src dst view) =
    PdIs src dst (record { head = view.head; payload = view.payload.now })
telegram_model (Md src dst view) =
    MdIs src dst (record { head = view.head; payload = view.payload.now })

-- the telegram is as long as its kind may be: process data carries at most 1432 bytes, a message
-- at most 65388
abbrev pub IsWithinLimit : TelegramModel → Type 0
IsWithinLimit (PdIs src dst telegram) = length telegram.payload ≤ pd_payload_limit
IsWithinLimit (MdIs src dst telegram) = length telegram.payload ≤ md_payload_limit

-- the comId of a telegram
abbrev pub com_id_of : TelegramModel → ℕ
com_id_of (PdIs src dst telegram) = telegram.head.com_id
com_id_of (MdIs src dst telegram) = telegram.head.com_id

-- the payload of a telegram
abbrev pub payload_of : TelegramModel → List ℕ
payload_of (PdIs src dst telegram) = telegram.payload
payload_of (MdIs src dst telegram) = telegram.payload
