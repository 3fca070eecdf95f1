-- The numbers of faults, refusals, reasons, states of a value and message types.
use Rattle.std.specs.Prelude.{ℕ}
use Rattle.trdp_head.specs.declared.md.MdKind.{MdKind}
use Rattle.trdp_head.specs.declared.md.MdKind.TheVariants.{Notify, Request, Reply, Query}
use Rattle.trdp_head.specs.declared.md.MdKind.TheVariants.{Confirm, Error}
use Rattle.trdp_pd.specs.declared.object.Reason.{Reason}
use Rattle.trdp_pd.specs.declared.object.Reason.TheVariants.{Done, NoReply, NotAllReplies}
use Rattle.trdp_pd.specs.declared.object.Reason.TheVariants.{NotConfirmed, ReplyMissed, NoConfirm}
use Rattle.trdp_pd.specs.declared.terms.ValueState.{ValueState}
use Rattle.trdp_pd.specs.declared.terms.ValueState.TheVariants.{Never, Valid, Silent}
use Rattle.trdp_model.specs.declared.fault.NodeFault.{NodeFault}
use Rattle.trdp_model.specs.declared.fault.NodeFault.TheVariants.{NoSlot, Past, TooLate}
use Rattle.trdp_model.specs.declared.fault.NodeFault.TheVariants.{NoGroup, OutOfMemory, SlotsFull}
use Rattle.trdp_model.specs.declared.fault.Refusal.{Refusal}
use Rattle.trdp_model.specs.declared.fault.Refusal.TheVariants.{NoHandle, WrongKind, State}
use Rattle.trdp_model.specs.declared.fault.Refusal.TheVariants.{Cycle, Timeout, Expected, Status}
use Rattle.trdp_model.specs.declared.fault.Refusal.TheVariants.{Range, NoDataset, TooLong, Shape}
use Rattle.trdp_model.specs.declared.fault.Refusal.TheVariants.{SessionOpen, Quota, Exhausted}
use Rattle.trdp_model.specs.declared.fault.Refusal.TheVariants.{Retries}
use Rattle.trdp_text.specs.declared.fault.LineFault.{LineFault}
use Rattle.trdp_text.specs.declared.fault.LineFault.TheVariants.{TooLong as LineTooLong, Unknown}
use Rattle.trdp_text.specs.declared.fault.LineFault.TheVariants.{Count, BadWord}
use Rattle.trdp_text.specs.declared.fault.LineFault.TheVariants.{OutOfMemory as NoLineMemory}

-- the status of an event that the node rejects
abbrev pub status_of_fault : NodeFault → ℕ
status_of_fault NoSlot = 1
status_of_fault Past = 2
status_of_fault TooLate = 3
status_of_fault NoGroup = 4
status_of_fault OutOfMemory = 5
status_of_fault SlotsFull = 6

-- the status of a line with a fault
abbrev pub status_of_line_fault : LineFault → ℕ
status_of_line_fault LineTooLong = 11
status_of_line_fault Unknown = 12
status_of_line_fault Count = 13
status_of_line_fault BadWord = 14
status_of_line_fault NoLineMemory = 5

-- the number of a refusal
abbrev pub refusal_code : Refusal → ℕ
refusal_code NoHandle = 1
refusal_code WrongKind = 2
refusal_code State = 3
refusal_code Cycle = 4
refusal_code Timeout = 5
refusal_code Expected = 6
refusal_code Status = 7
refusal_code Range = 8
refusal_code NoDataset = 9
refusal_code TooLong = 10
refusal_code Shape = 11
refusal_code SessionOpen = 12
refusal_code Quota = 13
refusal_code Exhausted = 14
refusal_code Retries = 15

-- the number of why a request or an answer is over
abbrev pub reason_code : Reason → ℕ
reason_code Done = 0
reason_code NoReply = 1
reason_code NotAllReplies = 2
reason_code NotConfirmed = 3
reason_code ReplyMissed = 4
reason_code NoConfirm = 5

-- the number of how good a subscription's value is
abbrev pub value_code : ValueState → ℕ
value_code Never = 0
value_code Valid = 1
value_code Silent = 2

-- the number of a message type
abbrev pub message_code : MdKind → ℕ
message_code Notify = 0
message_code Request = 1
message_code Reply = 2
message_code Query = 3
message_code Confirm = 4
message_code Error = 5
