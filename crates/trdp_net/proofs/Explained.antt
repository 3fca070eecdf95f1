-- By what each record of a move is explained: the invariant of a history.
-- For all modules from `Kept` to `RunLemmas`, which show that each move keeps it.
-- A definition for each kind of record: the earlier move that it needs, as the promises name it.
use Rattle.std.specs.Prelude.{◌≡◌, ℕ, ◌<◌, ◌≤◌, List, ◌∷◌, length, Some, true, false}
use Rattle.std.specs.Prelude.{slice_get}
use Rattle.trdp_base.specs.declared.place.Place.{Place}
use Rattle.trdp_head.specs.declared.pd.PdKind.{PdKind}
use Rattle.trdp_head.specs.declared.pd.PdKind.TheVariants as data_kind
use Rattle.trdp_head.specs.declared.md.MdKind.{MdKind}
use Rattle.trdp_head.specs.declared.md.MdKind.TheVariants as message
use Rattle.trdp_head.specs.PdTelegrams.{PdTelegram, pd_telegram_of}
use Rattle.trdp_head.specs.MdTelegrams.{MdTelegram, md_telegram_of}
use Rattle.trdp_pd.specs.declared.object.Reason.{Reason}
use Rattle.trdp_pd.specs.declared.object.Reason.TheVariants.{Done}
use Rattle.trdp_md.specs.declared.answers.RequestAnswer.{RequestAnswer}
use Rattle.trdp_md.specs.declared.caller.Caller.{Caller as AnyCaller}
use Rattle.trdp_md.specs.Answers.{has_answered}
use Rattle.trdp_md.specs.Sessions.{AreApart}
use Rattle.trdp_model.specs.declared.any_object.AnyObject.TheVariants.{Caller}
use Rattle.trdp_model.specs.declared.record.Protocol.{Protocol}
use Rattle.trdp_model.specs.declared.record.Protocol.TheVariants.{Pd, Md}
use Rattle.trdp_model.specs.Records.{Content, IndicationModel, ReplyModel, NotifiedIs, AskedIs}
use Rattle.trdp_model.specs.Records.{RepliedIs, ConfirmedIs, ClosedIs, Answers, Indicates, Sends}
use Rattle.trdp_model.specs.Notices.{message_of}
use Rattle.trdp_model.specs.Replies.{reply_of}
use Rattle.trdp_model.specs.Slots.{SlotState}
use Rattle.trdp_model.specs.Events.{EventModel, DatagramIs}
use Rattle.trdp_net.specs.Networks.{Move, effect_in, place_of}
use Rattle.trdp_net.specs.Provenance.{Ever, Each, Spot, Held, IsPut, IsNotified, IsRequestedBySome}
use Rattle.trdp_net.specs.Provenance.{IsRequestedAs, IsAnsweredBySome}
use Rattle.trdp_net.specs.Provenance.{IsConfirmedBySome}
use Rattle.trdp_net.specs.Promises.{IsConfirmMade, IsSettled}

-- the object of that node, slot and handle
abbrev pub spot : ℕ → ℕ → ℕ → Spot
spot k s h = record { node = k; slot = s; handle = h }

-- process data of that type: data and a pull reply carry what was put
abbrev pub DataBy : PdKind → List Move → PdTelegram → Type 0
DataBy data_kind.Data past t = Ever (IsPut t.head.com_id t.payload) past
DataBy data_kind.PullReply past t = Ever (IsPut t.head.com_id t.payload) past
DataBy kind past t = Unit {0}

-- a message of that type, from one place to the other
abbrev pub MessageBy : MdKind → List Move → Place → Place → MdTelegram → Type 0
MessageBy message.Notify past from to t = Ever (IsNotified (message_of from t)) past
MessageBy message.Request past from to t =
    Ever (IsRequestedBySome t.head.session (message_of from t)) past
MessageBy message.Reply past from to t =
    Ever (IsAnsweredBySome t.head.session (reply_of from t)) past
MessageBy message.Query past from to t =
    Ever (IsAnsweredBySome t.head.session (reply_of from t)) past
MessageBy message.Error past from to t =
    Ever (IsAnsweredBySome t.head.session (reply_of from t)) past
MessageBy message.Confirm past from to t =
    Ever (IsConfirmedBySome t.head.session from to t.head.status) past

-- the telegram that the bytes are, if they are one
abbrev pub SentBy : Protocol → List Move → Place → Place → List ℕ → Type 0
SentBy Pd past from to bytes =
    (t : PdTelegram) → pd_telegram_of bytes ≡ Some t → DataBy t.head.kind past t
SentBy Md past from to bytes =
    (t : MdTelegram) → md_telegram_of bytes ≡ Some t → MessageBy t.head.kind past from to t

-- the event is a datagram from that place
abbrev pub IsFrom : Place → EventModel → Type 0
IsFrom place (DatagramIs protocol src dst bytes) = src ≡ place
IsFrom place event = ⊥

-- a caller that a granted Request at this node opened, and an answer that was made to its
-- identifier, which the event of the move brought
pub record RepliedBy (past : List Move) (m : Move) (at : Spot) (answer : ReplyModel) : Type 0 where
  pub c : AnyCaller
  pub held : Held at (Caller c) m
  pub requested : Ever (IsRequestedAs at c.terms.session) past
  pub answered : Ever (IsAnsweredBySome c.terms.session answer) past
  pub from : IsFrom answer.src m.event

-- a caller that is done, and its answers by then: all that it had before the move, and the one that
-- the event of the move brought, if it brought any
pub record DoneBy (past : List Move) (m : Move) (at : Spot) : Type 0 where
  pub c : AnyCaller
  pub held : Held at (Caller c) m
  pub answers : List RequestAnswer
  pub enough : c.terms.expected ≤ length answers
  pub some : 0 < length answers
  pub apart : AreApart answers
  pub settled :
      Each (IsSettled (m ∷ past) at c.terms.session (place_of Md m.before.setup)) answers
  pub keeps :
      (place : Place) → has_answered answers place ≡ false
      → has_answered c.answers place ≡ false
  pub adds : (place : Place) → IsFrom place m.event → has_answered answers place ≡ true

-- a caller that is done; nothing is asked of any other reason
abbrev pub ClosedBy : List Move → Move → Spot → Reason → Type 0
ClosedBy past m at Done = DoneBy past m at
ClosedBy past m at reason = Unit {0}

-- an indication to slot s of node k
abbrev pub IndicatedBy : List Move → Move → ℕ → ℕ → IndicationModel → Type 0
IndicatedBy past m k s (NotifiedIs handle said) = Ever (IsNotified said) past
IndicatedBy past m k s (AskedIs listener replier session said) =
    Ever (IsRequestedBySome session said) past
IndicatedBy past m k s (RepliedIs handle answer) = RepliedBy past m (spot k s handle) answer
IndicatedBy past m k s (ConfirmedIs handle status) = IsConfirmMade m past (spot k s handle) status
IndicatedBy past m k s (ClosedIs handle reason) = ClosedBy past m (spot k s handle) reason
IndicatedBy past m k s indication = Unit {0}

-- a record of slot s of node k
abbrev pub ToldBy : List Move → Move → ℕ → ℕ → Content → Type 0
ToldBy past m k s (Answers answer) = Unit {0}
ToldBy past m k s (Indicates indication) = IndicatedBy past m k s indication
ToldBy past m k s (Sends protocol to bytes) =
    SentBy protocol (m ∷ past) (place_of protocol m.before.setup) to bytes

-- all records of a move
abbrev pub IsExplained : Move → List Move → Type 0
IsExplained m past =
    (s : ℕ) (slot : SlotState) → slice_get m.before.slots s ≡ Some slot
    → Each (ToldBy past m m.node s) (effect_in m s slot).records
