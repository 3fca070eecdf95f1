-- An outbox: its records, whose bytes are one after the other in one list.
use Rattle.std.specs.Prelude.{ℕ, ◌+◌, ◌≤◌, List, [], ◌∷◌, take, drop}
use Rattle.trdp_outbox.specs.declared.row.Row.{Row}
use Rattle.trdp_outbox.specs.declared.row.PlainAnswer.{PlainAnswer as AnyPlainAnswer}
use Rattle.trdp_outbox.specs.declared.row.PlainAnswer.TheVariants.{Handle, Done, Refused}
use Rattle.trdp_outbox.specs.declared.row.PlainAnswer.TheVariants.{Opened}
use Rattle.trdp_outbox.specs.declared.row.Heading.{Heading}
use Rattle.trdp_outbox.specs.declared.row.ReplyHeading.{ReplyHeading}
use Rattle.trdp_outbox.specs.declared.row.RowForm.{RowForm}
use Rattle.trdp_outbox.specs.declared.row.RowForm.TheVariants.{PlainAnswer, Value, Silent, Alive}
use Rattle.trdp_outbox.specs.declared.row.RowForm.TheVariants.{Notified, Asked, Overrun, Replied}
use Rattle.trdp_outbox.specs.declared.row.RowForm.TheVariants.{Confirmed, Closed, Send}
use Rattle.trdp_model.specs.Records.{AnswerModel, HandleIs, DoneIs, ValueIs, RefusedIs, Content}
use Rattle.trdp_model.specs.Records.{OpenedIs}
use Rattle.trdp_model.specs.Records.{Answers, Indicates, Sends, RecordModel, MessageModel}
use Rattle.trdp_model.specs.Records.{ReplyModel, SilentIs, AliveIs, NotifiedIs, AskedIs}
use Rattle.trdp_model.specs.Records.{OverrunIs, RepliedIs, ConfirmedIs, ClosedIs}

-- the records, how many bytes they hold, and for how many more records and bytes there is room
pub record OutboxState : Type 0 where
  pub records : List RecordModel
  pub held : ℕ
  pub row_room : ℕ
  pub byte_room : ℕ

-- an answer without bytes
abbrev pub plain_answer_model : AnyPlainAnswer → AnswerModel
plain_answer_model (Handle handle) = HandleIs handle
plain_answer_model Done = DoneIs
plain_answer_model (Refused refusal) = RefusedIs refusal
plain_answer_model Opened = OpenedIs

-- a message of that heading with these bytes as payload
abbrev pub headed : Heading → List ℕ → MessageModel
headed heading bytes = record {
  src = heading.src;
  com_id = heading.com_id;
  source_uri = heading.source_uri;
  dest_uri = heading.dest_uri;
  payload = bytes;
}

-- an answer of that heading with these bytes as payload
abbrev pub replied_under : ReplyHeading → List ℕ → ReplyModel
replied_under heading bytes = record {
  src = heading.src;
  kind = heading.kind;
  status = heading.status;
  com_id = heading.com_id;
  payload = bytes;
}

-- what a row says with these bytes
abbrev pub row_content : RowForm → List ℕ → Content
row_content (PlainAnswer answer) bytes = Answers (plain_answer_model answer)
row_content (Value state counter) bytes =
    Answers (ValueIs (record { state = state; counter = counter; bytes = bytes }))
row_content (Silent handle) bytes = Indicates (SilentIs handle)
row_content (Alive handle) bytes = Indicates (AliveIs handle)
row_content (Notified handle heading) bytes =
    Indicates (NotifiedIs handle (headed heading bytes))
row_content (Asked listener replier session heading) bytes =
    Indicates (AskedIs listener replier session (headed heading bytes))
row_content (Overrun listener) bytes = Indicates (OverrunIs listener)
row_content (Replied handle heading) bytes =
    Indicates (RepliedIs handle (replied_under heading bytes))
row_content (Confirmed handle status) bytes = Indicates (ConfirmedIs handle status)
row_content (Closed handle reason) bytes = Indicates (ClosedIs handle reason)
row_content (Send protocol to) bytes = Sends protocol to bytes

-- the record of a row
abbrev pub row_model : List ℕ → Row → RecordModel
row_model bytes row =
    record { slot = row.slot; content = row_content row.form (take row.len (drop row.at bytes)) }

-- each row's bytes are within the list
abbrev pub AllWithin : ℕ → List Row → Type 0
AllWithin n [] = Unit {0}
AllWithin n (row ∷ rows) = (row.at + row.len ≤ n) × AllWithin n rows
