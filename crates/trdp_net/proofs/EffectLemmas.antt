-- What an event does to one slot.
-- For the five promises of `laws`, through `RunLemmas`.
-- By cases on the event, and on a telegram by what it is; what a datagram brings was sent before.
use Rattle.std.proofs.Common.{◌≡◌, ℕ, List, [], ◌∷◌, Option, Some}
use Rattle.std.proofs.Common.{None, Bool, true, false, refl, sym, subst, arith, inl, inr}
use Rattle.std.proofs.Common.{slice_get}
use Rattle.std.specs.Prelude.{◌==◌, if◌then◌else◌}
use Rattle.std.specs.Prelude.{option_map}
use Rattle.std.proofs.lemmas.Bool.Decides.{nat_tests}
use Rattle.trdp_base.specs.declared.place.Place.{Place}
use Rattle.trdp_base.specs.declared.session.SessionId.{SessionId}
use Rattle.trdp_head.specs.declared.md.MdKind.{MdKind}
use Rattle.trdp_head.specs.declared.md.MdKind.TheVariants as message
use Rattle.trdp_head.specs.PdTelegrams.{PdTelegram, pd_telegram_of}
use Rattle.trdp_head.specs.MdTelegrams.{MdTelegram, md_telegram_of}
use Rattle.trdp_filter.specs.declared.globals.Globals.{Globals}
use Rattle.trdp_filter.specs.Telegrams.{TelegramModel, PdIs, MdIs}
use Rattle.trdp_md.specs.declared.replier.Stage.TheVariants as stage
use Rattle.trdp_md.specs.Repliers.{asked_by}
use Rattle.trdp_model.specs.declared.kind.Kind.TheVariants as kinds
use Rattle.trdp_model.specs.declared.any_object.AnyObject.TheVariants.{Replier}
use Rattle.trdp_model.specs.declared.record.Protocol.{Protocol}
use Rattle.trdp_model.specs.declared.record.Protocol.TheVariants.{Pd, Md}
use Rattle.trdp_model.specs.declared.fault.Refusal.{Refusal}
use Rattle.trdp_model.specs.Configs.{NodeSetup}
use Rattle.trdp_model.specs.Records.{MessageModel, AskedIs}
use Rattle.trdp_model.specs.Records.{Indicates}
use Rattle.trdp_model.specs.Slots.{SlotState, Outcome, unchanged}
use Rattle.trdp_model.specs.Openings.{opening_refusal}
use Rattle.trdp_model.specs.Notices.{message_of}
use Rattle.trdp_model.specs.Requests.{has_session, asked_unless}
use Rattle.trdp_model.specs.Requests.{asked_by_hearing}
use Rattle.trdp_model.specs.Datagrams.{telegram_of, hearing}
use Rattle.trdp_model.specs.Datagrams.{handed, is_request_kind, requested, received}
use Rattle.trdp_model.specs.Datagrams.{is_valid_at, received_if}
use Rattle.trdp_model.specs.Calls.{called}
use Rattle.trdp_model.specs.Events.{EventModel, MomentIs, TopologyIs}
use Rattle.trdp_model.specs.Events.{RoleIs, DatagramIs, CallIs}
use Rattle.trdp_model.specs.Events.{AddSlotIs}
use Rattle.trdp_model.specs.Alone.{plain_effect}
use Rattle.trdp_net.specs.Networks.{Move, effect_in, place_of}
use Rattle.trdp_net.specs.Provenance.{Ever, Spot, IsRequested}
use Rattle.trdp_net.specs.Provenance.{IsRequestedBySome}
use Rattle.trdp_net.proofs.PartLemmas.{each_append}
use Rattle.trdp_net.proofs.Kept.{EntryKept}
use Rattle.trdp_net.proofs.ObjectLemmas.{TelegramBy}
use Rattle.trdp_net.proofs.SlotLemmas.{OutcomeKept, AreGiven, entries_later, unchanged_kept}
use Rattle.trdp_net.proofs.SlotLemmas.{moved_kept, handed_kept}
use Rattle.trdp_net.proofs.Explained.{MessageBy, IsFrom, SentBy}
use Rattle.trdp_net.proofs.TypedMoveLemmas.{SendsTyped, IsTypedEntry}
use Rattle.trdp_net.specs.Provenance.{Each}
use Rattle.trdp_net.proofs.CallEffectLemmas.{called_kept}

-- the caller that a move of the past names
the_caller : (past : List Move) (session : SessionId) (said : MessageModel)
    → Ever (IsRequestedBySome session said) past
    → (by : Spot) × Ever (IsRequested by session said) past
the_caller [] session said h = absurd h
the_caller (m ∷ past) session said (inl h) = (h.0, inl h.1)
the_caller (m ∷ past) session said (inr h) =
    let rest = the_caller past session said h in (rest.0, inr rest.1)

not_awaiting : stage.Asked ≡ stage.AwaitConfirm → ⊥
not_awaiting is = absurd (cc)

-- a new replier
asked_unless_kept : (past : List Move) (m : Move) (s : ℕ) (slot : SlotState)
    (refusal : Option Refusal) (listener : ℕ) (globals : Globals) (src : Place) (t : MdTelegram)
    → Ever (IsRequestedBySome t.head.session (message_of src t)) past
    → Each (EntryKept past m.before.setup m.node s) slot.objects
    → AreGiven m s (asked_unless refusal slot listener globals src t).records
    → OutcomeKept past m s (asked_unless refusal slot listener globals src t)
asked_unless_kept past m s slot (Some refusal) listener globals src t origin kept given = record {
  objects = entries_later past m m.before.setup m.node s slot.objects kept;
  tells = (tt, tt);
}
asked_unless_kept past m s slot None listener globals src t origin kept given =
    let caller = the_caller past t.head.session (message_of src t) origin in
    record {
      objects =
          each_append (EntryKept (m ∷ past) m.before.setup m.node s) slot.objects
          (record {
            handle = slot.next;
            object = Replier (asked_by src t.head globals.now);
          } ∷ [])
          (entries_later past m m.before.setup m.node s slot.objects kept) (
            record {
              by = caller.0;
              asked = inl (record {
                listener = listener;
                said = message_of src t;
                gives =
                    given (Indicates (AskedIs listener slot.next t.head.session
                    (message_of src t)))
                    (inl refl);
                from_is = refl;
                requested = caller.1;
              });
              queried = λ awaits. absurd (not_awaiting awaits);
            },
            tt,
          );
      tells = (origin, tt);
    }

asked_kept : (past : List Move) (m : Move) (s : ℕ) (slot : SlotState) (listener : Option ℕ)
    (globals : Globals) (src : Place) (t : MdTelegram)
    → Ever (IsRequestedBySome t.head.session (message_of src t)) past
    → Each (EntryKept past m.before.setup m.node s) slot.objects
    → AreGiven m s (asked_by_hearing listener slot globals src t).records
    → OutcomeKept past m s (asked_by_hearing listener slot globals src t)
asked_kept past m s slot None globals src t origin kept given = unchanged_kept past m s slot kept
asked_kept past m s slot (Some listener) globals src t origin kept given =
    either (has_session kinds.Replier t.head.session slot.objects) given
  where
    either : (b : Bool)
        → AreGiven m s (let o : Outcome = (if b then unchanged slot
        else asked_unless (opening_refusal slot kinds.Replier) slot listener globals src t) in
        o).records
        → OutcomeKept past m s (if b then unchanged slot
        else asked_unless (opening_refusal slot kinds.Replier) slot listener globals src t)
    either true by = unchanged_kept past m s slot kept
    either false by =
        asked_unless_kept past m s slot (opening_refusal slot kinds.Replier) listener globals src t
        origin kept by

request_kind : (kind : MdKind) → is_request_kind kind ≡ true → kind ≡ message.Request
request_kind message.Notify is = absurd (cc is)
request_kind message.Request is = refl
request_kind message.Reply is = absurd (cc is)
request_kind message.Query is = absurd (cc is)
request_kind message.Confirm is = absurd (cc is)
request_kind message.Error is = absurd (cc is)

request_origin : (past : List Move) (from to : Place) (t : MdTelegram)
    → t.head.kind ≡ message.Request → MessageBy t.head.kind past from to t
    → Ever (IsRequestedBySome t.head.session (message_of from t)) past
request_origin past from to t is origin =
    subst (λ (k : MdKind). MessageBy k past from to t) is origin

received_kept : (past : List Move) (m : Move) (s : ℕ) (slot : SlotState) (setup : NodeSetup)
    (globals : Globals) (telegram : TelegramModel) → TelegramBy past m telegram
    → slice_get m.before.slots s ≡ Some slot → Each IsTypedEntry slot.objects
    → Each (EntryKept past m.before.setup m.node s) slot.objects
    → AreGiven m s (received setup slot globals telegram).records
    → OutcomeKept past m s (received setup slot globals telegram)
received_kept past m s slot setup globals (PdIs src dst t) origin slot_is typed kept given =
    handed_kept past m s slot setup globals (PdIs src dst t) origin slot_is typed kept given
received_kept past m s slot setup globals (MdIs src dst t) origin slot_is typed kept given =
    either (is_request_kind t.head.kind) refl given
  where
    either : (b : Bool) → is_request_kind t.head.kind ≡ b
        → AreGiven m s (let o : Outcome = (if b then requested slot globals (MdIs src dst t)
        else handed setup slot globals (MdIs src dst t)) in o).records
        → OutcomeKept past m s (if b then requested slot globals (MdIs src dst t)
        else handed setup slot globals (MdIs src dst t))
    either true is by =
        asked_kept past m s slot (hearing (MdIs src dst t) globals slot.objects) globals src t
        (request_origin past src (place_of Md m.before.setup) t
        (request_kind t.head.kind is) origin.1)
        kept by
    either false is by =
        handed_kept past m s slot setup globals (MdIs src dst t) origin slot_is typed kept by

received_if_kept : (past : List Move) (m : Move) (s : ℕ) (slot : SlotState) (setup : NodeSetup)
    (globals : Globals) (telegram : Option TelegramModel)
    → ((t : TelegramModel) → telegram ≡ Some t → TelegramBy past m t)
    → slice_get m.before.slots s ≡ Some slot → Each IsTypedEntry slot.objects
    → Each (EntryKept past m.before.setup m.node s) slot.objects
    → AreGiven m s (received_if setup slot globals telegram).records
    → OutcomeKept past m s (received_if setup slot globals telegram)
received_if_kept past m s slot setup globals None origin slot_is typed kept given =
    unchanged_kept past m s slot kept
received_if_kept past m s slot setup globals (Some t) origin slot_is typed kept given =
    either (is_valid_at globals t) given
  where
    either : (b : Bool)
        → AreGiven m s (let o : Outcome = (if b then received setup slot globals t
        else unchanged slot) in o).records
        → OutcomeKept past m s (if b then received setup slot globals t else unchanged slot)
    either true by =
        received_kept past m s slot setup globals t (origin t refl) slot_is typed kept by
    either false by = unchanged_kept past m s slot kept

-- what the event brings was sent, to the node's place
abbrev pub IsSent : List Move → NodeSetup → EventModel → Type 0
IsSent past setup (DatagramIs protocol src dst bytes) =
    SentBy protocol past src (place_of protocol setup) bytes
IsSent past setup event = Unit {0}

-- the telegram of a datagram that was sent
telegram_origin : (past : List Move) (m : Move) (protocol : Protocol) (src dst : Place)
    (bytes : List ℕ) → IsFrom src m.event
    → SentBy protocol past src (place_of protocol m.before.setup) bytes
    → (t : TelegramModel) → telegram_of protocol src dst bytes ≡ Some t → TelegramBy past m t
telegram_origin past m Pd src dst bytes from sent t is = here (pd_telegram_of bytes) refl is
  where
    here : (o : Option PdTelegram) → pd_telegram_of bytes ≡ o
        → option_map (λ telegram. PdIs src dst telegram) o ≡ Some t → TelegramBy past m t
    here None read is = absurd (cc is)
    here (Some telegram) read is =
        let same : PdIs src dst telegram ≡ t = cc is in
        subst (λ (x : TelegramModel). TelegramBy past m x) same (sent telegram read)
telegram_origin past m Md src dst bytes from sent t is = here (md_telegram_of bytes) refl is
  where
    here : (o : Option MdTelegram) → md_telegram_of bytes ≡ o
        → option_map (λ telegram. MdIs src dst telegram) o ≡ Some t → TelegramBy past m t
    here None read is = absurd (cc is)
    here (Some telegram) read is =
        let same : MdIs src dst telegram ≡ t = cc is in
        subst (λ (x : TelegramModel). TelegramBy past m x) same (from, sent telegram read)

effect_kept : (past : List Move) (m : Move) (s : ℕ) (slot : SlotState) (event : EventModel)
    → m.event ≡ event → SendsTyped event → IsSent past m.before.setup event
    → slice_get m.before.slots s ≡ Some slot → Each IsTypedEntry slot.objects
    → Each (EntryKept past m.before.setup m.node s) slot.objects
    → AreGiven m s (plain_effect m.before.setup s slot m.before.globals event).records
    → OutcomeKept past m s (plain_effect m.before.setup s slot m.before.globals event)
effect_kept past m s slot (MomentIs t) event fits sent slot_is typed kept given =
    moved_kept past m s slot t (record m.before.globals { now = t }) event slot_is typed kept given
effect_kept past m s slot (TopologyIs topo) event fits sent slot_is typed kept given =
    unchanged_kept past m s slot kept
effect_kept past m s slot (RoleIs group leader) event fits sent slot_is typed kept given =
    unchanged_kept past m s slot kept
effect_kept past m s slot (DatagramIs protocol src dst bytes) event fits sent slot_is typed kept
    given =
    received_if_kept past m s slot m.before.setup m.before.globals
    (telegram_of protocol src dst bytes)
    (telegram_origin past m protocol src dst bytes
    (subst (λ (v : EventModel). IsFrom src v) (sym event) refl) sent)
    slot_is typed kept given
effect_kept past m s slot (AddSlotIs quotas) event fits sent slot_is typed kept given =
    unchanged_kept past m s slot kept
effect_kept past m s slot (CallIs r call) event fits sent slot_is typed kept given =
    either (r == s) refl given
  where
    either : (b : Bool) → (r == s) ≡ b
        → AreGiven m s (let o : Outcome =
        (if b then called m.before.setup slot m.before.globals call
        else unchanged slot) in o).records
        → OutcomeKept past m s (if b then called m.before.setup slot m.before.globals call
        else unchanged slot)
    either true is by =
        let same : r ≡ s = grind (arith, nat_tests) in
        called_kept past m s slot m.before.setup m.before.globals call
        (subst (λ (n : ℕ). m.event ≡ CallIs n call) same event) fits slot_is typed kept by
    either false is by = unchanged_kept past m s slot kept

-- the whole of one slot in one move
pub slot_kept : (past : List Move) (m : Move) (s : ℕ) (slot : SlotState)
    → SendsTyped m.event → IsSent past m.before.setup m.event
    → slice_get m.before.slots s ≡ Some slot → Each IsTypedEntry slot.objects
    → Each (EntryKept past m.before.setup m.node s) slot.objects
    → OutcomeKept past m s (effect_in m s slot)
slot_kept past m s slot fits sent slot_is typed kept =
    effect_kept past m s slot m.event refl fits sent slot_is typed kept
    (λ content is. record { node_is = refl; slot = slot; slot_is = slot_is; given = is })
