-- What a node reads in a datagram: a telegram whose topology counters match its own, or none.
-- For `Node::step_datagram`.
-- By the definitions, and by the length of a payload.
use Rattle.std.proofs.Common.{◌≡◌, ℕ, ◌+◌, ◌≤◌, List, length, take, drop, true, false, Option}
use Rattle.std.proofs.Common.{Some, None, option_map, refl, ◌∙◌, ap, arith}
use Rattle.trdp_head.specs.declared.md.MdKind.{MdKind}
use Rattle.trdp_head.specs.declared.md.MdKind.TheVariants as message
use Rattle.std.specs.List.{flat_map, list_any}
use Rattle.std.proofs.lemmas.List.{length-drop, length-take-le}
use Rattle.trdp_filter.specs.declared.globals.Globals.{Globals}
use Rattle.trdp_filter.specs.declared.telegram.Telegram.{Telegram}
use Rattle.trdp_filter.specs.Telegrams.{TelegramModel, telegram_model, IsWithinLimit}
use Rattle.trdp_model.specs.Configs.{NodeSetup}
use Rattle.trdp_model.specs.Records.{RecordModel}
use Rattle.trdp_model.specs.Slots.{SlotState, unchanged}
use Rattle.trdp_model.specs.Datagrams.{is_valid_at, is_request, is_request_kind}
use Rattle.trdp_model.specs.Datagrams.{acting, concerns}
use Rattle.trdp_model.specs.Datagrams.{received_if, requested, handed}
use Rattle.trdp_model.specs.NodeModels.{HasOutcome}
use Rattle.trdp_outbox.specs.Outboxes.{OutboxState}
use Rattle.trdp_outbox.specs.Rooms.{LacksRoom, entries_room, datagram_room}
use Rattle.trdp_datagrams.proofs.DatagramLemmas.Taken.{lacking_concerns}

-- header and payload of a telegram are no longer than the most that its bytes may be
pub carries : (size longest n : ℕ) (bytes payload : List ℕ) → length bytes ≤ longest
    → size + n ≤ length bytes → payload ≡ take n (drop size bytes)
    → size + length payload ≤ longest
carries size longest n bytes payload short fits content =
    let long = ap length content
    ∙ length-take-le n (drop size bytes) (omega (arith, length-drop size bytes, fits)) in
    omega (arith, long, fits, short)

-- what came is this telegram, and its topology counters match the node's
pub record Comes (globals : Globals) (came : Option TelegramModel) (telegram : TelegramModel)
    : Type 0 where
  pub is : came ≡ Some telegram
  pub valid : is_valid_at globals telegram ≡ true
  pub limit : IsWithinLimit telegram

-- what came is taken for this telegram, or for none, where it changes no slot
abbrev pub IsAdmitted : Globals → Option TelegramModel → Option TelegramModel → Type 0
IsAdmitted globals came (Some telegram) = Comes globals came telegram
IsAdmitted globals came None =
    (setup : NodeSetup) (slot : SlotState) → received_if setup slot globals came ≡ unchanged slot

-- bytes that are no telegram
pub none_read : (globals : Globals) (came : Option TelegramModel) → came ≡ None
    → IsAdmitted globals came None
none_read globals came is = λ setup slot. rw is refl

-- a telegram whose topology counters don't match
pub none_valid : (globals : Globals) (came : Option TelegramModel) (telegram : TelegramModel)
    → came ≡ Some telegram → is_valid_at globals telegram ≡ false → IsAdmitted globals came None
none_valid globals came telegram is fails = λ setup slot. rw (is, fails) refl

pub some_admitted : (globals : Globals) (came : Option TelegramModel) (taken : Option Telegram)
    (telegram : Telegram) → taken ≡ Some telegram
    → IsAdmitted globals came (option_map telegram_model taken)
    → Comes globals came (telegram_model telegram)
some_admitted globals came taken telegram is admitted = rw is at admitted

pub none_admitted : (globals : Globals) (came : Option TelegramModel) (taken : Option Telegram)
    → taken ≡ None → IsAdmitted globals came (option_map telegram_model taken)
    → (setup : NodeSetup) (slot : SlotState)
    → received_if setup slot globals came ≡ unchanged slot
none_admitted globals came taken is admitted = rw is at admitted

-- where room is missing for those that act at it
pub lacks_room : (out : OutboxState) (globals : Globals) (slots : List SlotState)
    (came : Option TelegramModel) (telegram : TelegramModel) → Comes globals came telegram
    → LacksRoom out (entries_room (flat_map (λ slot. acting telegram globals slot.objects) slots))
    → LacksRoom out (datagram_room globals slots came)
lacks_room out globals slots came telegram comes lacks = rw (comes.is, comes.valid) lacks

pub lacks_concerns : (out : OutboxState) (globals : Globals) (slots : List SlotState)
    (came : Option TelegramModel) (telegram : TelegramModel) → Comes globals came telegram
    → LacksRoom out (entries_room (flat_map (λ slot. acting telegram globals slot.objects) slots))
    → list_any (concerns globals came) slots ≡ true
lacks_concerns out globals slots came telegram comes lacks =
    rw comes.is (lacking_concerns telegram globals slots out comes.valid lacks)

-- any type but that of a request
pub no_request : (kind : MdKind) → (kind ≡ message.Request → ⊥) → is_request_kind kind ≡ false
no_request message.Notify other = refl
no_request message.Request other = absurd (other refl)
no_request message.Reply other = refl
no_request message.Query other = refl
no_request message.Confirm other = refl
no_request message.Error other = refl

-- a request, and any other telegram
pub asked_outcome : (setup : NodeSetup) (slot : SlotState) (globals : Globals)
    (came : Option TelegramModel) (telegram : TelegramModel) (slots : List SlotState)
    (records records_then : List RecordModel) (s : ℕ) → Comes globals came telegram
    → is_request telegram ≡ true
    → HasOutcome slots records records_then s (requested slot globals telegram)
    → HasOutcome slots records records_then s (received_if setup slot globals came)
asked_outcome setup slot globals came telegram slots records records_then s comes asks has =
    rw (comes.is, comes.valid, asks) has

pub handed_outcome : (setup : NodeSetup) (slot : SlotState) (globals : Globals)
    (came : Option TelegramModel) (telegram : TelegramModel) (slots : List SlotState)
    (records records_then : List RecordModel) (s : ℕ) → Comes globals came telegram
    → is_request telegram ≡ false
    → HasOutcome slots records records_then s (handed setup slot globals telegram)
    → HasOutcome slots records records_then s (received_if setup slot globals came)
handed_outcome setup slot globals came telegram slots records records_then s comes asks has =
    rw (comes.is, comes.valid, asks) has
