-- The written forms of records and faults, a line each.
use Rattle.std.specs.Prelude.{ℕ, List, [], ◌++◌, codes}
use Rattle.trdp_base.specs.declared.place.Place.{Place}
use Rattle.trdp_base.specs.AddressText.{text_of_place}
use Rattle.trdp_base.specs.HexText.{text_of_hex}
use Rattle.trdp_base.specs.NumberText.{text_of_number}
use Rattle.trdp_base.specs.SessionText.{text_of_session}
use Rattle.trdp_base.specs.StatusText.{text_of_status}
use Rattle.trdp_head.specs.declared.md.MdKind.{MdKind}
use Rattle.trdp_head.specs.declared.md.MdKind.TheVariants.{Notify, Request, Reply, Query}
use Rattle.trdp_head.specs.declared.md.MdKind.TheVariants.{Confirm, Error}
use Rattle.trdp_pd.specs.declared.object.Reason.{Reason}
use Rattle.trdp_pd.specs.declared.object.Reason.TheVariants.{Done, NoReply, NotAllReplies}
use Rattle.trdp_pd.specs.declared.object.Reason.TheVariants.{NotConfirmed, ReplyMissed, NoConfirm}
use Rattle.trdp_pd.specs.Peeks.{PeekModel}
use Rattle.trdp_pd.specs.declared.terms.ValueState.{ValueState}
use Rattle.trdp_pd.specs.declared.terms.ValueState.TheVariants.{Never, Valid, Silent}
use Rattle.trdp_model.specs.Records.{AnswerModel, HandleIs, DoneIs, ValueIs, RefusedIs}
use Rattle.trdp_model.specs.Records.{OpenedIs}
use Rattle.trdp_model.specs.Records.{MessageModel, ReplyModel, IndicationModel, SilentIs, AliveIs}
use Rattle.trdp_model.specs.Records.{NotifiedIs, AskedIs, OverrunIs, RepliedIs, ConfirmedIs}
use Rattle.trdp_model.specs.Records.{ClosedIs}
use Rattle.trdp_model.specs.Records.{Content, Answers, Indicates, Sends, RecordModel}
use Rattle.trdp_model.specs.declared.fault.NodeFault.{NodeFault}
use Rattle.trdp_model.specs.declared.fault.NodeFault.TheVariants.{NoSlot, Past, TooLate}
use Rattle.trdp_model.specs.declared.fault.NodeFault.TheVariants.{NoGroup, OutOfMemory, SlotsFull}
use Rattle.trdp_model.specs.declared.fault.Refusal.{Refusal}
use Rattle.trdp_model.specs.declared.fault.Refusal.TheVariants.{NoHandle, WrongKind, State}
use Rattle.trdp_model.specs.declared.fault.Refusal.TheVariants.{Cycle, Timeout, Expected, Status}
use Rattle.trdp_model.specs.declared.fault.Refusal.TheVariants.{Range, NoDataset, TooLong, Shape}
use Rattle.trdp_model.specs.declared.fault.Refusal.TheVariants.{SessionOpen, Quota, Exhausted}
use Rattle.trdp_model.specs.declared.fault.Refusal.TheVariants.{Retries}
use Rattle.trdp_text.specs.declared.fault.LineFault.{LineFault}
use Rattle.trdp_text.specs.declared.fault.LineFault.TheVariants.{TooLong as LineTooLong, Unknown}
use Rattle.trdp_text.specs.declared.fault.LineFault.TheVariants.{Count, BadWord}
use Rattle.trdp_text.specs.declared.fault.LineFault.TheVariants.{OutOfMemory as NoLineMemory}
use Rattle.trdp_model.specs.declared.record.Protocol.{Protocol}
use Rattle.trdp_model.specs.declared.record.Protocol.TheVariants.{Pd, Md}

-- the name of a node's fault
-- rule: out.fault
abbrev pub name_of_fault : NodeFault → List ℕ
name_of_fault NoSlot = codes "NoSlot"
name_of_fault Past = codes "Past"
name_of_fault TooLate = codes "TooLate"
name_of_fault NoGroup = codes "NoGroup"
name_of_fault OutOfMemory = codes "OutOfMemory"
name_of_fault SlotsFull = codes "SlotsFull"

-- the name of a refusal
-- rule: out.refusal
abbrev pub name_of_refusal : Refusal → List ℕ
name_of_refusal NoHandle = codes "NoHandle"
name_of_refusal WrongKind = codes "WrongKind"
name_of_refusal State = codes "State"
name_of_refusal Cycle = codes "Cycle"
name_of_refusal Timeout = codes "Timeout"
name_of_refusal Expected = codes "Expected"
name_of_refusal Status = codes "Status"
name_of_refusal Range = codes "Range"
name_of_refusal NoDataset = codes "NoDataset"
name_of_refusal TooLong = codes "TooLong"
name_of_refusal Shape = codes "Shape"
name_of_refusal SessionOpen = codes "SessionOpen"
name_of_refusal Quota = codes "Quota"
name_of_refusal Exhausted = codes "Exhausted"
name_of_refusal Retries = codes "Retries"

-- the name of how good a subscription's value is
abbrev pub name_of_state : ValueState → List ℕ
name_of_state Never = codes "Never"
name_of_state Valid = codes "Valid"
name_of_state Silent = codes "Silent"

-- the two letters of a message type (IEC 61375-2-3)
abbrev pub letters_of_kind : MdKind → List ℕ
letters_of_kind Notify = codes "Mn"
letters_of_kind Request = codes "Mr"
letters_of_kind Reply = codes "Mp"
letters_of_kind Query = codes "Mq"
letters_of_kind Confirm = codes "Mc"
letters_of_kind Error = codes "Me"

-- the name of why a request or an answer is over
-- rule: out.reason
abbrev pub name_of_reason : Reason → List ℕ
name_of_reason Done = codes "Done"
name_of_reason NoReply = codes "NoReply"
name_of_reason NotAllReplies = codes "NotAllReplies"
name_of_reason NotConfirmed = codes "NotConfirmed"
name_of_reason ReplyMissed = codes "ReplyMissed"
name_of_reason NoConfirm = codes "NoConfirm"

-- the name of a line's fault
-- rule: line.fault
abbrev pub name_of_line_fault : LineFault → List ℕ
name_of_line_fault LineTooLong = codes "TooLong"
name_of_line_fault Unknown = codes "Unknown"
name_of_line_fault Count = codes "Count"
name_of_line_fault BadWord = codes "BadWord"
name_of_line_fault NoLineMemory = codes "OutOfMemory"

-- the words of what a subscription shows, with a space before each
-- rule: out.value
unfoldable pub text_of_peek : PeekModel → List ℕ
text_of_peek peek = codes " value " ++ name_of_state peek.state
    ++ codes " " ++ text_of_number peek.counter ++ codes " " ++ text_of_hex peek.bytes

-- the words of an answer, with a space before each
-- rule: out.answer
unfoldable pub text_of_answer : AnswerModel → List ℕ
text_of_answer (HandleIs handle) = codes " handle " ++ text_of_number handle
text_of_answer DoneIs = codes " done"
text_of_answer (ValueIs peek) = text_of_peek peek
text_of_answer (RefusedIs refusal) = codes " refused " ++ name_of_refusal refusal
text_of_answer OpenedIs = codes " opened"

-- the words of a message: where it came from, its comId, its URIs and its payload, with a space
-- before each
unfoldable pub text_of_message : MessageModel → List ℕ
text_of_message message = codes " " ++ text_of_place message.src
    ++ codes " " ++ text_of_number message.com_id ++ codes " " ++ text_of_hex message.source_uri
    ++ codes " " ++ text_of_hex message.dest_uri ++ codes " " ++ text_of_hex message.payload

-- the words of an answer to a request: where it came from, the letters of its message type, its
-- status, its comId and its payload, with a space before each
unfoldable pub text_of_reply : ReplyModel → List ℕ
text_of_reply reply = codes " " ++ text_of_place reply.src
    ++ codes " " ++ letters_of_kind reply.kind ++ codes " " ++ text_of_status reply.status
    ++ codes " " ++ text_of_number reply.com_id ++ codes " " ++ text_of_hex reply.payload

-- the words of what a node reports of its own accord, with a space before each
-- rule: out.indication
unfoldable pub text_of_indication : IndicationModel → List ℕ
text_of_indication (SilentIs handle) = codes " silent " ++ text_of_number handle
text_of_indication (AliveIs handle) = codes " alive " ++ text_of_number handle
text_of_indication (NotifiedIs handle message) =
    codes " notified " ++ text_of_number handle ++ text_of_message message
text_of_indication (AskedIs listener replier session message) =
    codes " asked " ++ text_of_number listener ++ codes " " ++ text_of_number replier
    ++ codes " " ++ text_of_session session.0 ++ text_of_message message
text_of_indication (OverrunIs listener) = codes " overrun " ++ text_of_number listener
text_of_indication (RepliedIs handle reply) =
    codes " replied " ++ text_of_number handle ++ text_of_reply reply
text_of_indication (ConfirmedIs handle status) =
    codes " confirmed " ++ text_of_number handle ++ codes " " ++ text_of_status status
text_of_indication (ClosedIs handle reason) =
    codes " closed " ++ text_of_number handle ++ codes " " ++ name_of_reason reason

-- the words before a telegram's destination
abbrev pub words_of_send : Protocol → List ℕ
words_of_send Pd = codes " send pd "
words_of_send Md = codes " send md "

-- a telegram with its protocol, its destination and its bytes, with a space before each
-- rule: out.send
unfoldable pub text_of_send : Protocol → Place → List ℕ → List ℕ
text_of_send protocol to telegram =
    words_of_send protocol ++ text_of_place to ++ codes " " ++ text_of_hex telegram

-- what a record says: an answer, an indication, or a telegram with its protocol, its destination
-- and its bytes
unfoldable pub text_of_content : Content → List ℕ
text_of_content (Answers answer) = text_of_answer answer
text_of_content (Indicates indication) = text_of_indication indication
text_of_content (Sends protocol to telegram) = text_of_send protocol to telegram

-- the slot's number, what the record says, and a newline
-- rule: out.record
unfoldable pub text_of_record : RecordModel → List ℕ
text_of_record r = text_of_number r.slot ++ text_of_content r.content ++ codes "\n"

-- the word `fault`, its name, and a newline
unfoldable pub text_of_fault : NodeFault → List ℕ
text_of_fault fault = codes "fault " ++ name_of_fault fault ++ codes "\n"

-- the bytes that an answer shows
abbrev pub answer_bytes : AnswerModel → List ℕ
answer_bytes (HandleIs handle) = []
answer_bytes DoneIs = []
answer_bytes (ValueIs peek) = peek.bytes
answer_bytes (RefusedIs refusal) = []
answer_bytes OpenedIs = []

-- the bytes that an indication shows
abbrev pub indication_bytes : IndicationModel → List ℕ
indication_bytes (SilentIs handle) = []
indication_bytes (AliveIs handle) = []
indication_bytes (NotifiedIs handle message) = message.payload
indication_bytes (AskedIs listener replier session message) = message.payload
indication_bytes (OverrunIs listener) = []
indication_bytes (RepliedIs handle reply) = reply.payload
indication_bytes (ConfirmedIs handle status) = []
indication_bytes (ClosedIs handle reason) = []

-- the bytes that a record shows
abbrev pub bytes_of : Content → List ℕ
bytes_of (Answers answer) = answer_bytes answer
bytes_of (Indicates indication) = indication_bytes indication
bytes_of (Sends protocol to telegram) = telegram
