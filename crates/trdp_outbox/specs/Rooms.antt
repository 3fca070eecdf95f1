-- How much room of an outbox the records of an event take, and where an allocation may fail.
use Rattle.std.specs.Prelude.{◌≡◌, ℕ, ◌<◌, ◌≤◌, ◌⊎◌, List, length, filter, nat_lt, Option, Some}
use Rattle.std.specs.Prelude.{None, Bool, true, false, if◌then◌else◌}
use Rattle.std.specs.List.{flat_map, sum_by}
use Rattle.trdp_base.specs.Limits.{md_payload_limit}
use Rattle.trdp_head.specs.Limits.{pd_payload_limit, pd_telegram_limit}
use Rattle.trdp_head.specs.Limits.{md_telegram_limit}
use Rattle.trdp_head.specs.MdBytes.{md_length_of}
use Rattle.trdp_filter.specs.declared.globals.Globals.{Globals}
use Rattle.trdp_filter.specs.Telegrams.{TelegramModel}
use Rattle.trdp_model.specs.declared.kind.Kind.{Kind}
use Rattle.trdp_model.specs.declared.kind.Kind.TheVariants.{Publisher, Subscription, Requester}
use Rattle.trdp_model.specs.declared.kind.Kind.TheVariants.{Listener, Caller, Replier}
use Rattle.trdp_model.specs.Kinds.{kind_of}
use Rattle.trdp_outbox.specs.declared.room.Room.{Room}
use Rattle.trdp_model.specs.Events.{CallModel, PublishCall, SubscribeCall, NotifyCall}
use Rattle.trdp_model.specs.Events.{RequestCall, ReplyCall, QueryCall, ReplyErrorCall}
use Rattle.trdp_model.specs.Events.{ConfirmCall, ResetCall}
use Rattle.trdp_model.specs.Events.{EventModel, MomentIs, TopologyIs, RoleIs, DatagramIs, CallIs}
use Rattle.trdp_model.specs.Events.{AddSlotIs}
use Rattle.trdp_model.specs.Slots.{Entry, SlotState}
use Rattle.trdp_model.specs.Datagrams.{telegram_of, is_valid_at, acting}
use Rattle.trdp_model.specs.Moments.{is_due}
use Rattle.trdp_model.specs.NodeModels.{NodeModel}
use Rattle.trdp_outbox.specs.Outboxes.{OutboxState}

-- the outbox does not have that room
abbrev pub LacksRoom : OutboxState → Room → Type 0
LacksRoom out room = (out.row_room < room.rows) ⊎ (out.byte_room < room.bytes)

-- the outbox has that room
pub record HasRoom (out : OutboxState) (room : Room) : Type 0 where
  pub rows : room.rows ≤ out.row_room
  pub bytes : room.bytes ≤ out.byte_room

-- no room
abbrev pub no_room : Room
no_room = record { rows = 0; bytes = 0 }

-- the most that an object of a kind records at a moment or a telegram. A publisher: the longest
-- telegram. A subscription or replier: one indication. A listener: one with the longest payload. A
-- caller: one like that and that it is over, or the longest request again
abbrev pub kind_room : Kind → Room
kind_room Publisher = record { rows = 1; bytes = pd_telegram_limit }
kind_room Subscription = record { rows = 1; bytes = 0 }
kind_room Requester = no_room
kind_room Listener = record { rows = 1; bytes = md_payload_limit }
kind_room Caller = record { rows = 2; bytes = md_telegram_limit }
kind_room Replier = record { rows = 1; bytes = 0 }

-- an object of any kind records no more than this many records
abbrev pub room_rows_limit : ℕ
room_rows_limit = 2

-- and no more bytes
abbrev pub room_bytes_limit : ℕ
room_bytes_limit = md_telegram_limit

-- room for what all these objects may record
abbrev pub entries_room : List Entry → Room
entries_room entries = record {
  rows = sum_by (λ entry. (kind_room (kind_of entry.object)).rows) entries;
  bytes = sum_by (λ entry. (kind_room (kind_of entry.object)).bytes) entries;
}

-- room for what fires at a moment
abbrev pub moment_room : ℕ → List SlotState → Room
moment_room t slots = entries_room (flat_map (λ slot. filter (is_due t) slot.objects) slots)

-- room for what acts at a datagram
abbrev pub datagram_room : Globals → List SlotState → Option TelegramModel → Room
datagram_room globals slots None = no_room
datagram_room globals slots (Some telegram) =
    if is_valid_at globals telegram
    then entries_room (flat_map (λ slot. acting telegram globals slot.objects) slots)
    else no_room

-- room for the records of a call at an object: a pull has two, and a value is at most as long as a
-- payload
abbrev pub answer_room : Room
answer_room = record { rows = 2; bytes = pd_payload_limit }

-- room for the records of a call that sends a message of n bytes: the answer and its telegram
abbrev pub message_room : ℕ → Room
message_room n = record {
  rows = 2;
  bytes = if nat_lt md_payload_limit n then 0 else md_length_of n;
}

-- room for the records of a confirmation: the answer, its telegram without payload, and that the
-- caller is over
abbrev pub confirm_room : Room
confirm_room = record { rows = 3; bytes = md_length_of 0 }

-- room for a plain answer, which has no bytes
abbrev pub plain_room : Room
plain_room = record { rows = 1; bytes = 0 }

-- room for the records of a call
abbrev pub call_room : CallModel → Room
call_room (NotifyCall terms payload) = message_room (length payload)
call_room (RequestCall terms payload) = message_room (length payload)
call_room (ReplyCall handle com_id status payload) = message_room (length payload)
call_room (QueryCall handle com_id status timeout payload) = message_room (length payload)
call_room (ReplyErrorCall handle com_id status) = message_room 0
call_room (ConfirmCall handle place status) = confirm_room
call_room ResetCall = plain_room
call_room _ = answer_room

-- the calls that make a publisher, a subscription or a caller, which need memory for its value or
-- its request's payload
abbrev pub makes_buffer : CallModel → Bool
makes_buffer (PublishCall terms) = true
makes_buffer (SubscribeCall terms) = true
makes_buffer (RequestCall terms payload) = true
makes_buffer _ = false

-- where an allocation may fail for a call: it makes a publisher, a subscription or a caller, or
-- the outbox has no room for its records
abbrev pub CallMayLack : OutboxState → CallModel → Type 0
CallMayLack out call = (makes_buffer call ≡ true) ⊎ LacksRoom out (call_room call)

-- where an allocation may fail for an event: at such a call, where a slot is opened, and else
-- where the outbox has no room for the event's records
abbrev pub MayLackMemory : NodeModel → OutboxState → EventModel → Type 0
MayLackMemory node out (MomentIs t) = LacksRoom out (moment_room t node.slots)
MayLackMemory node out (TopologyIs topo) = ⊥
MayLackMemory node out (RoleIs group leader) = ⊥
MayLackMemory node out (DatagramIs protocol src dst bytes) =
    LacksRoom out (datagram_room node.globals node.slots (telegram_of protocol src dst bytes))
MayLackMemory node out (CallIs s call) = CallMayLack out call
MayLackMemory node out (AddSlotIs quotas) = Unit {0}
