-- What a node sends to its slots: answers, indications and telegrams.
use Rattle.std.specs.Prelude.{ℕ, ℤ, List, [], ◌∷◌, Option, Some, None, map, filter, ◌==◌}
use Rattle.trdp_base.specs.declared.place.Place.{Place}
use Rattle.trdp_base.specs.declared.session.SessionId.{SessionId}
use Rattle.trdp_head.specs.declared.md.MdKind.{MdKind}
use Rattle.trdp_head.specs.declared.pd.PdHead.{PdHead}
use Rattle.trdp_head.specs.PdBytes.{pd_bytes}
use Rattle.trdp_pd.specs.declared.object.Reason.{Reason}
use Rattle.trdp_pd.specs.Peeks.{PeekModel, peek_model}
use Rattle.trdp_model.specs.declared.fault.Refusal.{Refusal}
use Rattle.trdp_model.specs.declared.record.Answer.{Answer as AnyAnswer}
use Rattle.trdp_model.specs.declared.record.Answer.TheVariants.{Handle, Done, Value, Refused}
use Rattle.trdp_model.specs.declared.record.Answer.TheVariants.{Opened}
use Rattle.trdp_model.specs.declared.record.Indication.{Indication as AnyIndication}
use Rattle.trdp_model.specs.declared.record.Indication.TheVariants.{Silent, Alive, Notified}
use Rattle.trdp_model.specs.declared.record.Indication.TheVariants.{Asked, Overrun, Replied}
use Rattle.trdp_model.specs.declared.record.Indication.TheVariants.{Confirmed, Closed}
use Rattle.trdp_model.specs.declared.record.Message.{Message}
use Rattle.trdp_model.specs.declared.record.Reply.{Reply}
use Rattle.trdp_model.specs.declared.record.Protocol.{Protocol}
use Rattle.trdp_model.specs.declared.record.Protocol.TheVariants.{Pd}
use Rattle.trdp_model.specs.declared.record.What.{What}
use Rattle.trdp_model.specs.declared.record.What.TheVariants.{Answer, Indication, Send}
use Rattle.trdp_model.specs.declared.record.Record.{Record}

-- the result of a call, or of the opening of a slot
pub data AnswerModel : Type 0 where
  HandleIs : (handle : ℕ) → AnswerModel
  DoneIs : AnswerModel
  ValueIs : (peek : PeekModel) → AnswerModel
  RefusedIs : (refusal : Refusal) → AnswerModel
  OpenedIs : AnswerModel

-- what a listener's slot gets of a message: where it came from, its comId, its URIs and its
-- payload
pub record MessageModel : Type 0 where
  pub src : Place
  pub com_id : ℕ
  pub source_uri : List ℕ
  pub dest_uri : List ℕ
  pub payload : List ℕ

-- what a caller's slot gets of an answer: where it came from, its message type, its status, its
-- comId and its payload
pub record ReplyModel : Type 0 where
  pub src : Place
  pub kind : MdKind
  pub status : ℤ
  pub com_id : ℕ
  pub payload : List ℕ

-- What a node reports to a slot without a call. The subscription of that handle fell silent, or is
-- alive again. The listener of that handle was notified, or was asked in a session that the
-- replier is to answer, or there was no room for a replier. The caller of that handle accepted an
-- answer. The replier of that handle was confirmed with that status. The caller or replier of that
-- handle is over.
pub data IndicationModel : Type 0 where
  SilentIs : (handle : ℕ) → IndicationModel
  AliveIs : (handle : ℕ) → IndicationModel
  NotifiedIs : (handle : ℕ) (message : MessageModel) → IndicationModel
  AskedIs :
      (listener replier : ℕ) (session : SessionId) (message : MessageModel) → IndicationModel
  OverrunIs : (listener : ℕ) → IndicationModel
  RepliedIs : (handle : ℕ) (reply : ReplyModel) → IndicationModel
  ConfirmedIs : (handle : ℕ) (status : ℤ) → IndicationModel
  ClosedIs : (handle : ℕ) (reason : Reason) → IndicationModel

-- what a record says: an answer, an indication, or a telegram with its protocol, its destination
-- and every byte
pub data Content : Type 0 where
  Answers : (answer : AnswerModel) → Content
  Indicates : (indication : IndicationModel) → Content
  Sends : (protocol : Protocol) (to : Place) (telegram : List ℕ) → Content

-- one thing that a node sends to the slot of that number
pub record RecordModel : Type 0 where
  pub slot : ℕ
  pub content : Content

-- an answer, apart from where its bytes are
abbrev pub answer_model : AnyAnswer → AnswerModel
answer_model (Handle handle) = HandleIs handle
answer_model Done = DoneIs
answer_model (Value peek) = ValueIs (peek_model peek)
answer_model (Refused refusal) = RefusedIs refusal
answer_model Opened = OpenedIs

-- a message, apart from where its bytes are
abbrev pub message_model : Message → MessageModel
message_model m = record {
  src = m.src;
  com_id = m.com_id;
  source_uri = m.source_uri;
  dest_uri = m.dest_uri;
  payload = m.payload.now;
}

-- an answer to a request, apart from where its bytes are
abbrev pub reply_model : Reply → ReplyModel
reply_model r = record {
  src = r.src;
  kind = r.kind;
  status = r.status;
  com_id = r.com_id;
  payload = r.payload.now;
}

-- an indication, apart from where its bytes are
abbrev pub indication_model : AnyIndication → IndicationModel
indication_model (Silent handle) = SilentIs handle
indication_model (Alive handle) = AliveIs handle
indication_model (Notified handle message) = NotifiedIs handle (message_model message)
indication_model (Asked listener replier session message) =
    AskedIs listener replier session (message_model message)
indication_model (Overrun listener) = OverrunIs listener
indication_model (Replied handle reply) = RepliedIs handle (reply_model reply)
indication_model (Confirmed handle status) = ConfirmedIs handle status
indication_model (Closed handle reason) = ClosedIs handle reason

-- what a record says, apart from where its bytes are
abbrev pub content_model : What → Content
content_model (Answer answer) = Answers (answer_model answer)
content_model (Indication indication) = Indicates (indication_model indication)
content_model (Send protocol to telegram) = Sends protocol to telegram.now

-- a record, apart from where its bytes are
abbrev pub record_model : Record → RecordModel
record_model r = record { slot = r.slot; content = content_model r.what }

-- the records of slot s, in order
abbrev pub records_of : ℕ → List RecordModel → List Content
records_of s records = map (λ r. r.content) (filter (λ r. r.slot == s) records)

-- these as records of slot s
abbrev pub labelled : ℕ → List Content → List RecordModel
labelled s contents =
    map (λ c. let r : RecordModel = record { slot = s; content = c } in r) contents

-- a value that is sent to that place with this header; without a value nothing is sent
abbrev pub value_sent : Place → PdHead → Option (List ℕ) → List Content
value_sent to head None = []
value_sent to head (Some bytes) = Sends Pd to (pd_bytes head bytes) ∷ []
