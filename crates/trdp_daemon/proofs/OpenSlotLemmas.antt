-- A slot that is open stays so.
-- For `EachPortLemmas`.
-- By cases on the event: none closes a slot, and one opens another after the last.
use Rattle.std.proofs.Common.{◌≡◌, suc, ℕ, Bool, true, false, if◌then◌else◌, List, [], ◌∷◌}
use Rattle.std.proofs.Common.{Option, Some, None, Result, Ok, Err, refl, ap, length, length-append}
use Rattle.std.proofs.Common.{◌≤◌, arith}
use Rattle.trdp_base.specs.declared.place.Place.{Place}
use Rattle.trdp_filter.specs.declared.globals.Globals.{Globals}
use Rattle.trdp_model.specs.declared.fault.NodeFault.{NodeFault}
use Rattle.trdp_model.specs.Alone.{refused_as, opened_by}
use Rattle.trdp_model.specs.Configs.{NodeSetup, setup_of}
use Rattle.trdp_model.specs.Events.{EventModel, CallIs, ResetCall}
use Rattle.trdp_model.specs.NodeModels.{NodeModel}
use Rattle.trdp_model.specs.Slots.{SlotState}
use Rattle.trdp_text.specs.EventBytes.{carries_bytes}
use Rattle.trdp_text.specs.PortLines.{OperatorSays, Orders, Asks}
use Rattle.trdp_text.specs.PortLines.{control_line_of, operator_line_of}
use Rattle.trdp_model.specs.NodeModels.{node_unless, slots_after}
use Rattle.trdp_text.specs.declared.fault.LineFault.{LineFault}
use Rattle.trdp_wire.specs.declared.port.Port.{Port}
use Rattle.trdp_wire.specs.declared.port.Port.TheVariants.{Pd, Md, PdGroup, MdGroup}
use Rattle.trdp_wire.specs.declared.port.Port.TheVariants.{Operator, Control}
use Rattle.trdp_daemon.specs.declared.totals.Totals.{Totals}
use Rattle.trdp_wire.specs.Told.{Arrived, Failed, Nothing, Came}
use Rattle.trdp_daemon.specs.Effects.{ServiceState, Effect, Loss, LineLost, EventLost, TextsLost}
use Rattle.trdp_daemon.specs.Effects.{event_effect, event_taken, may_take_memory, missing}
use Rattle.trdp_daemon.specs.Effects.{telling_only, still}
use Rattle.trdp_daemon.specs.Leases.{end_effect, ended_effect, is_silent, forgotten, quiet_effect}
use Rattle.trdp_daemon.specs.Turns.{Visit, visit_effect, visits_effect, Turn, turn_effect}
use Rattle.trdp_daemon.specs.Turns.{begun, moment_effect, moment_of}
use Rattle.trdp_daemon.specs.Visits.{operator_event, operator_effect, operator_taken, heard_from}
use Rattle.trdp_daemon.specs.Visits.{lives_still}
use Rattle.trdp_daemon.specs.Visits.{came_effect, control_event, control_effect, datagram_effect}
use Rattle.trdp_daemon.specs.Visits.{taking_effect}

-- the slots that are there stay
slots_kept : (setup : NodeSetup) (g : Globals) (event : EventModel) (s : ℕ)
    (slots : List SlotState) → length (slots_after setup g event s slots) ≡ length slots
slots_kept setup g event s [] = refl
slots_kept setup g event s (slot ∷ slots) =
    let rest = slots_kept setup g event (suc s) slots in ap suc rest

node_kept : (fault : Option NodeFault) (node : NodeModel) (event : EventModel)
    → length node.slots ≤ length (node_unless fault node event).slots
node_kept (Some fault) node event = omega arith
node_kept None node event =
    omega (
      arith,
      slots_kept (setup_of node.config) node.globals event 0 node.slots,
      length-append (slots_after (setup_of node.config) node.globals event 0 node.slots)
          (opened_by event),
    )

-- an effect leaves the slots that were open before
abbrev pub KeepsSlots : ServiceState → Effect → Type 0
KeepsSlots s effect = length s.node.slots ≤ length effect.service.node.slots

lost_keeps : (lost : Bool) (s : ServiceState) (effect : Effect) → KeepsSlots s effect
    → KeepsSlots s (if lost then telling_only s missing else effect)
lost_keeps true s effect kept = omega arith
lost_keeps false s effect kept = kept

taken_keeps : (s : ServiceState) (event : EventModel) (marks : List Bool)
    → KeepsSlots s (event_taken s event marks)
taken_keeps s event marks =
    node_kept (refused_as (length s.node.slots) s.node.globals event) s.node event

event_keeps : (s : ServiceState) (event : EventModel) (loss : Loss)
    → KeepsSlots s (event_effect s event loss)
unfolding event_effect
event_keeps s event LineLost = lost_keeps (may_take_memory s.node event) s
    (event_taken s event []) (taken_keeps s event [])
event_keeps s event EventLost = lost_keeps (may_take_memory s.node event) s
    (event_taken s event []) (taken_keeps s event [])
event_keeps s event (TextsLost marks) = taken_keeps s event marks

operator_event_keeps : (s : ServiceState) (from : Place) (event : EventModel) (loss : Loss)
    → KeepsSlots s (operator_event s from event loss)
unfolding operator_event
operator_event_keeps s from event LineLost = event_keeps s event (TextsLost [])
operator_event_keeps s from event EventLost = lost_keeps (may_take_memory s.node event) s
    (operator_taken s from event []) (event_keeps s event (TextsLost []))
operator_event_keeps s from event (TextsLost marks) = event_keeps s event (TextsLost marks)

operator_keeps : (s : ServiceState) (from : Place) (totals : Totals)
    (line : Result (Option OperatorSays) LineFault) (loss : Loss)
    → KeepsSlots s (operator_effect s from totals line loss)
unfolding operator_effect
operator_keeps s from totals (Err fault) loss = omega arith
operator_keeps s from totals (Ok None) loss = omega arith
operator_keeps s from totals (Ok (Some (Orders event))) loss = operator_event_keeps s from event loss
operator_keeps s from totals (Ok (Some (Asks question))) loss = omega arith

control_event_keeps : (s : ServiceState) (slot : ℕ) (from : Place) (event : EventModel)
    (loss : Loss) → KeepsSlots s (control_event s slot from event loss)
unfolding control_event
control_event_keeps s slot from event LineLost =
    lost_keeps (carries_bytes (Some event)) (lives_still s slot)
    (event_effect (heard_from s slot from) event (TextsLost []))
    (event_keeps (heard_from s slot from) event (TextsLost []))
control_event_keeps s slot from event EventLost =
    event_keeps (heard_from s slot from) event EventLost
control_event_keeps s slot from event (TextsLost marks) =
    event_keeps (heard_from s slot from) event (TextsLost marks)

control_keeps : (s : ServiceState) (slot : ℕ) (from : Place)
    (line : Result (Option EventModel) LineFault) (loss : Loss)
    → KeepsSlots s (control_effect s slot from line loss)
unfolding control_effect
control_keeps s slot from (Err fault) loss = omega arith
control_keeps s slot from (Ok None) loss = omega arith
control_keeps s slot from (Ok (Some event)) loss = control_event_keeps s slot from event loss

datagram_keeps : (s : ServiceState) (totals : Totals) (port : Port) (from : Place)
    (bytes : List ℕ) (loss : Loss) → KeepsSlots s (datagram_effect s totals port from bytes loss)
unfolding datagram_effect
datagram_keeps s totals Pd from bytes loss = event_keeps s _ loss
datagram_keeps s totals Md from bytes loss = event_keeps s _ loss
datagram_keeps s totals (PdGroup group) from bytes loss = event_keeps s _ loss
datagram_keeps s totals (MdGroup group) from bytes loss = event_keeps s _ loss
datagram_keeps s totals Operator from bytes loss =
    operator_keeps s from totals (operator_line_of bytes) loss
datagram_keeps s totals (Control slot) from bytes loss =
    control_keeps s slot from (control_line_of slot bytes) loss

end_keeps : (s : ServiceState) (slot : ℕ) (loss : Loss) → KeepsSlots s (end_effect s slot loss)
end_keeps s slot loss = event_keeps (forgotten s slot) (CallIs slot ResetCall) loss

silence_keeps : (silent : Bool) (s : ServiceState) (slot : ℕ) (loss : Loss)
    → KeepsSlots s (if silent then end_effect s slot loss else still s)
silence_keeps true s slot loss = end_keeps s slot loss
silence_keeps false s slot loss = omega arith

quiet_keeps : (s : ServiceState) (port : Port) (loss : Loss)
    → KeepsSlots s (quiet_effect s port loss)
unfolding quiet_effect
quiet_keeps s Pd loss = omega arith
quiet_keeps s Md loss = omega arith
quiet_keeps s (PdGroup group) loss = omega arith
quiet_keeps s (MdGroup group) loss = omega arith
quiet_keeps s Operator loss = omega arith
quiet_keeps s (Control slot) loss = silence_keeps (is_silent s slot) s slot loss

ended_keeps : (s : ServiceState) (port : Port) (loss : Loss)
    → KeepsSlots s (ended_effect s port loss)
unfolding ended_effect
ended_keeps s Pd loss = omega arith
ended_keeps s Md loss = omega arith
ended_keeps s (PdGroup group) loss = omega arith
ended_keeps s (MdGroup group) loss = omega arith
ended_keeps s Operator loss = omega arith
ended_keeps s (Control slot) loss = end_keeps s slot loss

came_keeps : (ended : Bool) (s : ServiceState) (totals : Totals) (port : Port) (from : Place)
    (bytes : List ℕ) (loss : Loss)
    → KeepsSlots s (came_effect ended s totals port from bytes loss)
came_keeps true s totals port from bytes loss = ended_keeps s port loss
came_keeps false s totals port from bytes loss = datagram_keeps s totals port from bytes loss

taking_keeps : (s : ServiceState) (totals : Totals) (port : Port) (ended : Bool)
    (arrived : Arrived) (loss : Loss)
    → KeepsSlots s (taking_effect s totals port ended arrived loss)
unfolding taking_effect
taking_keeps s totals port ended Failed loss = omega arith
taking_keeps s totals port ended Nothing loss = quiet_keeps s port loss
taking_keeps s totals port ended (Came from bytes) loss =
    came_keeps ended s totals port from bytes loss

pub visit_keeps : (s : ServiceState) (visit : Visit) → KeepsSlots s (visit_effect s visit)
visit_keeps s visit =
    taking_keeps s visit.totals visit.taking.port visit.taking.ended visit.taking.arrived visit.loss

visits_keep : (s : ServiceState) (visits : List Visit) → KeepsSlots s (visits_effect s visits)
visits_keep s [] = omega arith
visits_keep s (visit ∷ visits) =
    omega (arith, visits_keep (visit_effect s visit).service visits, visit_keeps s visit)

pub moment_keeps : (s : ServiceState) (turn : Turn)
    → KeepsSlots s (moment_effect s turn)
moment_keeps s turn =
    event_keeps (begun s turn.reading) (moment_of s.node turn.reading) turn.loss

pub turn_keeps : (s : ServiceState) (turn : Turn) → KeepsSlots s (turn_effect s turn)
turn_keeps s turn =
    omega (
      arith,
      visits_keep (moment_effect s turn).service turn.visits,
      moment_keeps s turn,
    )
