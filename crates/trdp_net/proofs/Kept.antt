-- What is known of each object, from the moves before.
-- For all modules that show what one move keeps, up to `RunLemmas`.
-- A record for each kind of object; all of it speaks of earlier moves, so it stays known later.
use Rattle.std.proofs.Common.{◌≡◌, ℕ, ◌≤◌, List, [], ◌∷◌, length, Option, Some, None, true, false}
use Rattle.std.proofs.Common.{inr}
use Rattle.trdp_base.specs.declared.place.Place.{Place}
use Rattle.trdp_base.specs.declared.session.SessionId.{SessionId}
use Rattle.trdp_head.specs.declared.pd.PdKind.{PdKind}
use Rattle.trdp_head.specs.declared.pd.PdKind.TheVariants as data_kind
use Rattle.trdp_head.specs.declared.md.MdKind.{MdKind}
use Rattle.trdp_head.specs.declared.md.MdKind.TheVariants as message
use Rattle.trdp_head.specs.PdTelegrams.{PdTelegram}
use Rattle.trdp_head.specs.MdTelegrams.{MdTelegram}
use Rattle.trdp_pd.specs.declared.terms.ValueState.TheVariants.{Valid}
use Rattle.trdp_md.specs.declared.answers.RequestAnswer.{RequestAnswer}
use Rattle.trdp_md.specs.declared.terms.CallerTerms.{CallerTerms}
use Rattle.trdp_md.specs.declared.caller.Caller.{Caller as AnyCaller}
use Rattle.trdp_md.specs.declared.replier.Replier.{Replier as AnyReplier}
use Rattle.trdp_md.specs.declared.replier.Stage.TheVariants.{AwaitConfirm}
use Rattle.trdp_model.specs.declared.any_object.AnyObject.{AnyObject}
use Rattle.trdp_model.specs.declared.any_object.AnyObject.TheVariants.{Publisher, Subscription}
use Rattle.trdp_model.specs.declared.any_object.AnyObject.TheVariants.{Requester, Listener}
use Rattle.trdp_model.specs.declared.any_object.AnyObject.TheVariants.{Caller, Replier}
use Rattle.trdp_model.specs.declared.record.Protocol.{Protocol}
use Rattle.trdp_model.specs.declared.record.Protocol.TheVariants.{Pd, Md}
use Rattle.trdp_model.specs.Configs.{NodeSetup}
use Rattle.trdp_model.specs.Records.{MessageModel}
use Rattle.trdp_model.specs.Slots.{Entry}
use Rattle.trdp_model.specs.Acts.{Act}
use Rattle.trdp_net.specs.Networks.{Move, place_of}
use Rattle.trdp_net.specs.Provenance.{Ever, Spot, IsPut, IsRequested, IsAsked, IsReplied}
use Rattle.trdp_net.specs.Provenance.{IsConfirmedAs, IsQueried}
use Rattle.trdp_net.proofs.PartLemmas.{each_map}
use Rattle.trdp_md.specs.Sessions.{AreApart}
use Rattle.trdp_net.proofs.Explained.{spot, DataBy, MessageBy, SentBy, ToldBy}
use Rattle.trdp_net.specs.Provenance.{Each}

-- a request as it is reported, at the node of that place
abbrev pub said_by : Place → CallerTerms → List ℕ → MessageModel
said_by home terms payload = record {
  src = home;
  com_id = terms.com_id;
  source_uri = terms.source_uri;
  dest_uri = terms.dest_uri;
  payload = payload;
}

-- a value was put, and is as long as process data carries at most
pub record WasPut (past : List Move) (com_id : ℕ) (bytes : List ℕ) : Type 0 where
  pub put : Ever (IsPut com_id bytes) past
  pub limit : length bytes ≤ 1432

-- the value of a publisher, if it has one
abbrev pub ValueKept : List Move → ℕ → Option (List ℕ) → Type 0
ValueKept past com_id None = Unit {0}
ValueKept past com_id (Some bytes) = WasPut past com_id bytes

-- one answer of a caller
pub record AnswerKept (past : List Move) (at : Spot) (session : SessionId) (home : Place)
    (a : RequestAnswer) : Type 0 where
  pub replied : Ever (IsReplied at session a.place a.kind) past
  pub owes : a.confirm_owed ≡ true → a.kind ≡ message.Query
  pub confirmed : a.kind ≡ message.Query → a.confirm_owed ≡ false
      → Ever (IsConfirmedAs at session home a.place) past

-- a caller: what it says was requested, and is no longer than message data carries at most; and
-- each of its answers is known
pub record CallerKept (past : List Move) (setup : NodeSetup) (at : Spot) (c : AnyCaller)
    : Type 0 where
  pub requested :
      Ever (IsRequested at c.terms.session (said_by (place_of Md setup) c.terms c.payload)) past
  pub limit : length c.payload ≤ 65388
  pub answers : Each (AnswerKept past at c.terms.session (place_of Md setup)) c.answers
  pub apart : AreApart c.answers

-- a replier: it was asked, and has queried if it awaits a confirmation
pub record ReplierKept (past : List Move) (at : Spot) (r : AnyReplier) : Type 0 where
  pub by : Spot
  pub asked : Ever (IsAsked at by r.session r.peer) past
  pub queried : r.stage ≡ AwaitConfirm → Ever (IsQueried at r.session) past

-- what is known of any object
abbrev pub ObjectKept : List Move → NodeSetup → Spot → AnyObject → Type 0
ObjectKept past setup at (Publisher p) = ValueKept past p.terms.com_id p.value
ObjectKept past setup at (Subscription u) =
    u.state ≡ Valid → Ever (IsPut u.terms.filter.com_id u.value) past
ObjectKept past setup at (Requester r) = Unit {0}
ObjectKept past setup at (Listener l) = Unit {0}
ObjectKept past setup at (Caller c) = CallerKept past setup at c
ObjectKept past setup at (Replier r) = ReplierKept past at r

-- the same of an entry of slot s of node k
abbrev pub EntryKept : List Move → NodeSetup → ℕ → ℕ → Entry → Type 0
EntryKept past setup k s entry = ObjectKept past setup (spot k s entry.handle) entry.object

-- what was known is known later
pub value_later : (past : List Move) (m : Move) (com_id : ℕ) (value : Option (List ℕ))
    → ValueKept past com_id value → ValueKept (m ∷ past) com_id value
value_later past m com_id None h = tt
value_later past m com_id (Some bytes) h = record { put = inr h.put; limit = h.limit }

-- the same of an answer
pub answer_later : (past : List Move) (m : Move) (at : Spot) (session : SessionId) (home : Place)
    (a : RequestAnswer) → AnswerKept past at session home a
    → AnswerKept (m ∷ past) at session home a
answer_later past m at session home a h = record {
  replied = inr h.replied;
  owes = h.owes;
  confirmed = λ query settled. inr (h.confirmed query settled);
}

-- the same of all answers
pub answers_later : (past : List Move) (m : Move) (at : Spot) (session : SessionId) (home : Place)
    (answers : List RequestAnswer) → Each (AnswerKept past at session home) answers
    → Each (AnswerKept (m ∷ past) at session home) answers
answers_later past m at session home answers h =
    each_map (AnswerKept past at session home) (AnswerKept (m ∷ past) at session home) answers
    (answer_later past m at session home) h

-- the same of an object
pub object_later : (past : List Move) (m : Move) (setup : NodeSetup) (at : Spot) (x : AnyObject)
    → ObjectKept past setup at x → ObjectKept (m ∷ past) setup at x
object_later past m setup at (Publisher p) h = value_later past m p.terms.com_id p.value h
object_later past m setup at (Subscription u) h = λ valid. inr (h valid)
object_later past m setup at (Requester r) h = tt
object_later past m setup at (Listener l) h = tt
object_later past m setup at (Caller c) h = record {
  requested = inr h.requested;
  limit = h.limit;
  answers = answers_later past m at c.terms.session (place_of Md setup) c.answers h.answers;
  apart = h.apart;
}
object_later past m setup at (Replier r) h =
    record { by = h.by; asked = inr h.asked; queried = λ awaits. inr (h.queried awaits) }

data_later : (kind : PdKind) (past : List Move) (m : Move) (t : PdTelegram)
    → DataBy kind past t → DataBy kind (m ∷ past) t
data_later data_kind.Data past m t h = inr h
data_later data_kind.PullReply past m t h = inr h
data_later data_kind.PullRequest past m t h = tt
data_later data_kind.Error past m t h = tt

message_later : (kind : MdKind) (past : List Move) (m : Move) (from to : Place) (t : MdTelegram)
    → MessageBy kind past from to t → MessageBy kind (m ∷ past) from to t
message_later message.Notify past m from to t h = inr h
message_later message.Request past m from to t h = inr h
message_later message.Reply past m from to t h = inr h
message_later message.Query past m from to t h = inr h
message_later message.Error past m from to t h = inr h
message_later message.Confirm past m from to t h = inr h

-- the same of a telegram
pub sent_later : (protocol : Protocol) (past : List Move) (m : Move) (from to : Place)
    (bytes : List ℕ) → SentBy protocol past from to bytes
    → SentBy protocol (m ∷ past) from to bytes
sent_later Pd past m from to bytes h = λ t is. data_later t.head.kind past m t (h t is)
sent_later Md past m from to bytes h = λ t is. message_later t.head.kind past m from to t (h t is)

-- what is left of an object is known to be so
abbrev pub StaysKept : List Move → NodeSetup → Spot → Option AnyObject → Type 0
StaysKept past setup at None = Unit {0}
StaysKept past setup at (Some x) = ObjectKept past setup at x

-- what one object does in a move
pub record ActKept (past : List Move) (m : Move) (at : Spot) (act : Act) : Type 0 where
  pub stays : StaysKept (m ∷ past) m.before.setup at act.left
  pub tells : Each (ToldBy past m at.node at.slot) act.records

-- an object that does nothing
pub nothing_kept : (past : List Move) (m : Move) (at : Spot) (x : AnyObject)
    → ObjectKept past m.before.setup at x
    → ActKept past m at (record { left = Some x; records = [] })
nothing_kept past m at x h =
    record { stays = object_later past m m.before.setup at x h; tells = tt }
