-- Notifications: how one is sent, and what is reported of one that is heard.
use Rattle.std.specs.Prelude.{ℕ, List, [], ◌∷◌, length, Option, Some, None, not, nat_lt}
use Rattle.std.specs.Prelude.{if◌then◌else◌}
use Rattle.trdp_base.specs.declared.place.Place.{Place}
use Rattle.trdp_head.specs.declared.md.MdKind.{MdKind}
use Rattle.trdp_head.specs.declared.md.MdKind.TheVariants as message
use Rattle.trdp_head.specs.MdTelegrams.{MdTelegram}
use Rattle.trdp_head.specs.MdBytes.{md_bytes}
use Rattle.trdp_filter.specs.declared.globals.Globals.{Globals}
use Rattle.trdp_filter.specs.Counts.{topo_valid}
use Rattle.trdp_filter.specs.Telegrams.{TelegramModel, PdIs, MdIs}
use Rattle.trdp_md.specs.declared.terms.NotifyTerms.{NotifyTerms}
use Rattle.trdp_md.specs.Notifications.{notification_of}
use Rattle.trdp_model.specs.declared.fault.Refusal.{Refusal}
use Rattle.trdp_model.specs.declared.fault.Refusal.TheVariants.{State, TooLong}
use Rattle.trdp_model.specs.declared.record.Protocol.TheVariants.{Md}
use Rattle.trdp_model.specs.Records.{Content, MessageModel, Indicates, NotifiedIs, Sends}
use Rattle.trdp_base.specs.Limits.{md_payload_limit}

-- a message as a listener's slot gets it
abbrev pub message_of : Place → MdTelegram → MessageModel
message_of src telegram = record {
  src = src;
  com_id = telegram.head.com_id;
  source_uri = telegram.head.source_uri;
  dest_uri = telegram.head.dest_uri;
  payload = telegram.payload;
}

-- what the slot of a listener gets of a message of that kind: of a notification all of it
abbrev pub heard_as : MdKind → ℕ → MessageModel → List Content
heard_as message.Notify handle said = Indicates (NotifiedIs handle said) ∷ []
heard_as kind handle said = []

-- what the slot of a listener gets of a telegram that it heard
abbrev pub heard : ℕ → TelegramModel → List Content
heard handle (PdIs src dst telegram) = []
heard handle (MdIs src dst telegram) =
    heard_as telegram.head.kind handle (message_of src telegram)

-- first refusal of a notification: topology counters that don't match the node's, and more bytes
-- than message data carries
-- rule: notification.refusal
abbrev pub notify_refusal : Globals → NotifyTerms → List ℕ → Option Refusal
notify_refusal globals terms payload =
    if not (topo_valid terms.topo globals.topo) then Some State else
    if nat_lt md_payload_limit (length payload) then Some TooLong else None

-- a notification as it is sent
abbrev pub notice : NotifyTerms → List ℕ → Content
notice terms payload = Sends Md terms.to (md_bytes (notification_of terms) payload)
