-- What a datagram at one of the ports gives.
use Rattle.std.specs.Prelude.{◌≡◌, ℕ, List, [], ◌++◌, length, codes, Bool, true, false}
use Rattle.std.specs.Prelude.{Option, Some, None, option_map, Result, Ok, Err, if◌then◌else◌}
use Rattle.trdp_base.specs.declared.place.Place.{Place}
use Rattle.trdp_model.specs.declared.fault.NodeFault.{NodeFault}
use Rattle.trdp_model.specs.declared.record.Protocol.{Protocol}
use Rattle.trdp_model.specs.declared.record.Protocol.TheVariants.{Pd as PdData, Md as MdData}
use Rattle.trdp_model.specs.Alone.{opened_by, refused_as}
use Rattle.trdp_model.specs.Events.{EventModel, DatagramIs}
use Rattle.trdp_text.specs.EventBytes.{carries_bytes}
use Rattle.trdp_text.specs.declared.fault.LineFault.{LineFault}
use Rattle.trdp_text.specs.declared.fault.LineFault.TheVariants.{TooLong, Unknown, Count}
use Rattle.trdp_text.specs.declared.fault.LineFault.TheVariants.{BadWord, OutOfMemory}
use Rattle.trdp_text.specs.RecordText.{text_of_fault, name_of_line_fault}
use Rattle.trdp_text.specs.PortLines.{OperatorSays, Orders, Asks}
use Rattle.trdp_text.specs.PortLines.{control_line_of, operator_line_of}
use Rattle.trdp_text.specs.declared.operator_line.Question.{Question}
use Rattle.trdp_daemon.specs.declared.contact.Contact.{Contact}
use Rattle.trdp_wire.specs.declared.port.Port.{Port}
use Rattle.trdp_wire.specs.declared.port.Port.TheVariants.{Pd, Md, PdGroup, MdGroup}
use Rattle.trdp_wire.specs.declared.port.Port.TheVariants.{Operator, Control}
use Rattle.trdp_daemon.specs.declared.totals.Totals.{Totals}
use Rattle.trdp_daemon.specs.Leases.{ended_effect, quiet_effect}
use Rattle.trdp_wire.specs.Ports.{place_of_port}
use Rattle.trdp_daemon.specs.Questions.{text_of_question}
use Rattle.trdp_wire.specs.Told.{Arrived, Failed, Nothing, Came}
use Rattle.trdp_daemon.specs.Effects.{Telling, missing, offering, ServiceState, Effect, still}
use Rattle.trdp_daemon.specs.Effects.{telling_only, then_effect, event_effect, lost_or}
use Rattle.trdp_daemon.specs.Effects.{contact_of, read_again, with_contact}
use Rattle.trdp_daemon.specs.Effects.{Loss, LineLost, EventLost, TextsLost}

-- the answer to a datagram that is no line
unfoldable pub text_of_line_fault : LineFault → List ℕ
text_of_line_fault fault = codes "line fault " ++ name_of_line_fault fault ++ codes "\n"

-- a datagram that is no line gets its fault back from the port that it came to; one for which an
-- allocation failed is lost
unfoldable pub fault_telling : Port → Place → LineFault → Telling
fault_telling port from TooLong = offering port from (text_of_line_fault TooLong)
fault_telling port from Unknown = offering port from (text_of_line_fault Unknown)
fault_telling port from Count = offering port from (text_of_line_fault Count)
fault_telling port from BadWord = offering port from (text_of_line_fault BadWord)
fault_telling port from OutOfMemory = missing

-- the answer to a line of the operator whose event has this fault, or none
unfoldable pub operator_text : Option NodeFault → List ℕ
operator_text None = codes "ok\n"
operator_text (Some fault) = text_of_fault fault

-- what is offered to the operator for an event, after the event's records
abbrev pub operator_answer : ServiceState → Place → EventModel → Telling
operator_answer service from event = offering Operator from
    (operator_text (refused_as (length service.node.slots) service.node.globals event))

-- the node takes an event of the operator, who is then answered
abbrev pub operator_taken : ServiceState → Place → EventModel → List Bool → Effect
operator_taken service from event marks =
    then_effect (event_effect service event (TextsLost marks))
    (λ after. telling_only after (operator_answer service from event))

-- an event of the operator: one that is lost has no answer; its line carries no bytes, and isn't
-- lost
unfoldable pub operator_event : ServiceState → Place → EventModel → Loss → Effect
operator_event service from event LineLost = operator_taken service from event []
operator_event service from event EventLost =
    lost_or service event (operator_taken service from event [])
operator_event service from event (TextsLost marks) = operator_taken service from event marks

-- what the operator says opens no slot
abbrev pub OpensNoSlot : OperatorSays → Type 0
OpensNoSlot (Orders event) = opened_by event ≡ []
OpensNoSlot (Asks question) = Unit {0}

-- a question of the operator is answered, which changes nothing and is never lost
abbrev pub question_effect : ServiceState → Place → Totals → Question → Effect
question_effect service from totals question =
    telling_only service (offering Operator from (text_of_question service totals question))

-- a datagram at the operator's port, where these are the totals: a skipped line has no answer, and
-- isn't lost
unfoldable pub operator_effect : ServiceState → Place → Totals
    → Result (Option OperatorSays) LineFault → Loss → Effect
operator_effect service from totals (Err fault) loss =
    telling_only service (fault_telling Operator from fault)
operator_effect service from totals (Ok None) loss = still service
operator_effect service from totals (Ok (Some (Orders event))) loss =
    operator_event service from event loss
operator_effect service from totals (Ok (Some (Asks question))) loss =
    question_effect service from totals question

-- a line that comes from there in this turn
abbrev pub contact_from : ServiceState → Place → Contact
contact_from service from = record { place = from; reading = service.reading }

-- what reads as a line at a slot's control port is the slot's latest line
abbrev pub heard_from : ServiceState → ℕ → Place → ServiceState
heard_from service slot from = with_contact service slot (Some (contact_from service from))

-- a line with a fault, or one that is lost, shows that the slot's application lives, if that had a
-- line before; it doesn't show where
abbrev pub lives_still : ServiceState → ℕ → ServiceState
lives_still service slot = with_contact service slot
    (option_map (read_again service.reading) (contact_of service.contacts slot))

-- a line is lost where it carries bytes; elsewhere it has this effect
abbrev pub line_lost_or : ServiceState → ℕ → EventModel → Effect → Effect
line_lost_or service slot event effect = if carries_bytes (Some event)
    then telling_only (lives_still service slot) missing else effect

-- a call of a slot
unfoldable pub control_event : ServiceState → ℕ → Place → EventModel → Loss → Effect
control_event service slot from event LineLost = line_lost_or service slot event
    (event_effect (heard_from service slot from) event (TextsLost []))
control_event service slot from event EventLost =
    event_effect (heard_from service slot from) event EventLost
control_event service slot from event (TextsLost marks) =
    event_effect (heard_from service slot from) event (TextsLost marks)

-- a datagram at the control port of a slot: a skipped line isn't lost
unfoldable pub control_effect : ServiceState → ℕ → Place → Result (Option EventModel) LineFault
    → Loss → Effect
control_effect service slot from (Err fault) loss =
    telling_only (lives_still service slot) (fault_telling (Control slot) from fault)
control_effect service slot from (Ok None) loss = still (heard_from service slot from)
control_effect service slot from (Ok (Some event)) loss =
    control_event service slot from event loss

-- a telegram that came to a port went to the place of that port
abbrev pub telegram_effect : ServiceState → Protocol → Port → Place → List ℕ → Loss → Effect
telegram_effect service protocol port from bytes loss = event_effect service
    (DatagramIs protocol from (place_of_port service.node.config port) bytes) loss

-- a datagram at a port, where these are the totals
unfoldable pub datagram_effect : ServiceState → Totals → Port → Place → List ℕ → Loss → Effect
datagram_effect service totals Pd from bytes loss =
    telegram_effect service PdData Pd from bytes loss
datagram_effect service totals Md from bytes loss =
    telegram_effect service MdData Md from bytes loss
datagram_effect service totals (PdGroup group) from bytes loss =
    telegram_effect service PdData (PdGroup group) from bytes loss
datagram_effect service totals (MdGroup group) from bytes loss =
    telegram_effect service MdData (MdGroup group) from bytes loss
datagram_effect service totals Operator from bytes loss =
    operator_effect service from totals (operator_line_of bytes) loss
datagram_effect service totals (Control slot) from bytes loss =
    control_effect service slot from (control_line_of slot bytes) loss

-- the same where it may be the end of the application at its place
abbrev pub came_effect : (ended : Bool) → ServiceState → Totals → Port → Place → List ℕ → Loss
    → Effect
came_effect true service totals port from bytes loss = ended_effect service port loss
came_effect false service totals port from bytes loss =
    datagram_effect service totals port from bytes loss

-- the effect of a take, where these are the totals, and it is an end or not; one that failed has
-- none
unfoldable pub taking_effect : ServiceState → Totals → Port → (ended : Bool) → Arrived → Loss
    → Effect
taking_effect service totals port ended Failed loss = still service
taking_effect service totals port ended Nothing loss = quiet_effect service port loss
taking_effect service totals port ended (Came from bytes) loss =
    came_effect ended service totals port from bytes loss
