-- Lines that can't be lost.
-- For `lost_only_where_memory_is_taken`.
-- By cases on what the line means: where it takes no memory it is never out of memory.
use Rattle.std.proofs.Common.{◌≡◌, ℕ, suc, Bool, true, false, List, [], ◌∷◌, ◌++◌, Option, Some}
use Rattle.std.proofs.Common.{None}
use Rattle.std.proofs.Common.{Result, Ok, Err, IfOk, IfSome, refl, sym, ◌∙◌, ap, not, if◌then◌else◌}
use Rattle.std.proofs.Common.{append-nil}
use Rattle.std.specs.Prelude.{◌==◌}
use Rattle.trdp_base.specs.declared.place.Place.{Place}
use Rattle.trdp_base.specs.declared.topo.Topo.{Topo}
use Rattle.trdp_filter.specs.declared.globals.Globals.{Globals}
use Rattle.trdp_model.specs.declared.fault.NodeFault.TheVariants.{NoGroup}
use Rattle.trdp_model.specs.Configs.{NodeSetup, setup_of}
use Rattle.trdp_model.specs.Events.{EventModel, MomentIs, TopologyIs, RoleIs, DatagramIs, CallIs}
use Rattle.trdp_model.specs.Events.{AddSlotIs}
use Rattle.trdp_model.specs.Alone.{opened_by}
use Rattle.trdp_model.specs.NodeModels.{NodeModel}
use Rattle.trdp_model.specs.NodeModels.{MayTakeMemory}
use Rattle.trdp_model.specs.Records.{Content, labelled}
use Rattle.trdp_model.specs.Slots.{SlotState}
use Rattle.trdp_text.specs.declared.fault.LineFault.{LineFault}
use Rattle.trdp_text.specs.EventBytes.{carries_bytes}
use Rattle.trdp_text.specs.PortLines.{OperatorSays, Orders, Asks}
use Rattle.trdp_text.specs.PortLines.{control_line_of, operator_line_of}
use Rattle.trdp_text.proofs.ReadLemmas.Ports.{IsOperators}
use Rattle.trdp_text.proofs.ReadLemmas.OperatorLines.{SaysOperators, operators_line}
use Rattle.trdp_model.specs.NodeModels.{node_after}
use Rattle.trdp_wire.specs.declared.port.Port.TheVariants.{Operator, Control}
use Rattle.trdp_daemon.specs.declared.totals.Totals.{Totals}
use Rattle.trdp_daemon.specs.Effects.{ServiceState, Loss, LineLost, EventLost, TextsLost}
use Rattle.trdp_daemon.specs.Effects.{event_effect, event_records, event_taken, missing}
use Rattle.trdp_daemon.specs.Effects.{records_telling, records_unless, slots_records}
use Rattle.trdp_daemon.specs.Effects.{telling_only, then_effect}
use Rattle.trdp_daemon.specs.Visits.{OpensNoSlot, control_effect, control_event, datagram_effect}
use Rattle.trdp_daemon.specs.Visits.{operator_answer, operator_effect, operator_event, heard_from}
use Rattle.trdp_daemon.specs.Visits.{lives_still}
use Rattle.trdp_daemon.proofs.ServiceLemmas.{operator_not_lost}
use Rattle.trdp_daemon.proofs.TurnLemmas.{effect_of}

-- topology counters give no record
topology_untold : (setup : NodeSetup) (g : Globals) (topo : Topo) (s : ℕ) (slots : List SlotState)
    → slots_records setup g (TopologyIs topo) s slots ≡ []
topology_untold setup g topo s [] = refl
topology_untold setup g topo s (slot ∷ slots) = topology_untold setup g topo (suc s) slots

-- nor does a role
role_untold : (setup : NodeSetup) (g : Globals) (group : ℕ) (leader : Bool)
    (s : ℕ) (slots : List SlotState) → slots_records setup g (RoleIs group leader) s slots ≡ []
role_untold setup g group leader s [] = refl
role_untold setup g group leader s (slot ∷ slots) =
    ap (λ c. labelled s c ++ slots_records setup g (RoleIs group leader) (suc s) slots)
    (either (not (group == 0))) ∙ role_untold setup g group leader (suc s) slots
  where
    either : (b : Bool) → (let none : List Content = [] in if b then none else none) ≡ []
    either true = refl
    either false = refl

-- what the operator says gives no record
operators_untold : (node : NodeModel) (event : EventModel) → IsOperators (Ok (Some event))
    → opened_by event ≡ [] → event_records node event ≡ []
operators_untold node (MomentIs t) of none = absurd of
operators_untold node (TopologyIs topo) of none =
    append-nil (slots_records (setup_of node.config) node.globals (TopologyIs topo) 0 node.slots)
    ∙ topology_untold (setup_of node.config) node.globals topo 0 node.slots
operators_untold node (RoleIs group leader) of none = by_group (group == 0)
  where
    by_group : (b : Bool)
        → records_unless (if b then Some NoGroup else None) node (RoleIs group leader) ≡ []
    by_group true = refl
    by_group false =
        append-nil (slots_records (setup_of node.config) node.globals (RoleIs group leader) 0
        node.slots) ∙ role_untold (setup_of node.config) node.globals group leader 0 node.slots
operators_untold node (DatagramIs protocol src dst bytes) of none = absurd of
operators_untold node (CallIs s call) of none = absurd of
operators_untold node (AddSlotIs quotas) of none = absurd (cc)

-- and needs no memory
operators_take_none : (node : NodeModel) (event : EventModel)
    → IsOperators (Ok (Some event)) → opened_by event ≡ [] → MayTakeMemory node event → ⊥
operators_take_none node (MomentIs t) of none may = absurd of
operators_take_none node (TopologyIs topo) of none may = absurd may
operators_take_none node (RoleIs group leader) of none may = absurd may
operators_take_none node (DatagramIs protocol src dst bytes) of none may = absurd of
operators_take_none node (CallIs s call) of none may = absurd of
operators_take_none node (AddSlotIs quotas) of none may = absurd (cc)

-- so no text of it can be lost
untold_taken : (s : ServiceState) (event : EventModel) (marks : List Bool)
    → event_records s.node event ≡ [] → event_taken s event marks ≡ event_taken s event []
untold_taken s event marks none =
    let after : ServiceState = record s { node = node_after s.node event } in
    ap (λ l. effect_of after (records_telling s.contacts marks l)) none
    ∙ ap (λ l. effect_of after (records_telling s.contacts [] l)) (sym none)

operator_event_sure : (s : ServiceState) (from : Place) (event : EventModel) (loss : Loss)
    → IsOperators (Ok (Some event)) → opened_by event ≡ []
    → operator_event s from event loss ≡ operator_event s from event (TextsLost [])
unfolding operator_event event_effect
operator_event_sure s from event LineLost of none = refl
operator_event_sure s from event EventLost of none =
    operator_not_lost s from event (operators_take_none s.node event of none)
operator_event_sure s from event (TextsLost marks) of none =
    ap (λ e. then_effect e (λ after. telling_only after (operator_answer s from event)))
    (untold_taken s event marks (operators_untold s.node event of none))

operator_sure : (s : ServiceState) (from : Place) (totals : Totals)
    (line : Result (Option OperatorSays) LineFault) (loss : Loss) → SaysOperators line
    → IfOk line (λ line. IfSome line OpensNoSlot)
    → operator_effect s from totals line loss ≡ operator_effect s from totals line (TextsLost [])
unfolding operator_effect
operator_sure s from totals (Err fault) loss of none = refl
operator_sure s from totals (Ok None) loss of none = refl
operator_sure s from totals (Ok (Some (Orders event))) loss of none =
    operator_event_sure s from event loss of none
operator_sure s from totals (Ok (Some (Asks question))) loss of none = refl

-- nothing is lost of what comes to the operator's port, but the opening of a slot
pub operator_line_sure : (s : ServiceState) (totals : Totals) (from : Place) (bytes : List ℕ)
    (loss : Loss) → IfOk (operator_line_of bytes) (λ line. IfSome line OpensNoSlot)
    → datagram_effect s totals Operator from bytes loss
    ≡ datagram_effect s totals Operator from bytes (TextsLost [])
unfolding datagram_effect
operator_line_sure s totals from bytes loss none =
    operator_sure s from totals (operator_line_of bytes) loss (operators_line bytes) none

operator_read : (s : ServiceState) (from : Place) (totals : Totals)
    (line : Result (Option OperatorSays) LineFault) → operator_effect s from totals line LineLost
    ≡ operator_effect s from totals line (TextsLost [])
unfolding operator_effect operator_event
operator_read s from totals (Err fault) = refl
operator_read s from totals (Ok None) = refl
operator_read s from totals (Ok (Some (Orders event))) = refl
operator_read s from totals (Ok (Some (Asks question))) = refl

-- and its line is always read
pub operator_line_read : (s : ServiceState) (totals : Totals) (from : Place) (bytes : List ℕ)
    → datagram_effect s totals Operator from bytes LineLost
    ≡ datagram_effect s totals Operator from bytes (TextsLost [])
unfolding datagram_effect
operator_line_read s totals from bytes = operator_read s from totals (operator_line_of bytes)

control_sure : (s : ServiceState) (slot : ℕ) (from : Place)
    (line : Result (Option EventModel) LineFault)
    → IfOk line (λ event. carries_bytes event ≡ false)
    → control_effect s slot from line LineLost ≡ control_effect s slot from line (TextsLost [])
unfolding control_effect control_event
control_sure s slot from (Err fault) none = refl
control_sure s slot from (Ok None) none = refl
control_sure s slot from (Ok (Some event)) none =
    ap (λ b. if b then telling_only (lives_still s slot) missing
    else event_effect (heard_from s slot from) event (TextsLost [])) none

-- a control line is read that carries no bytes
pub control_line_sure : (s : ServiceState) (totals : Totals) (slot : ℕ) (from : Place)
    (bytes : List ℕ) → IfOk (control_line_of slot bytes) (λ event. carries_bytes event ≡ false)
    → datagram_effect s totals (Control slot) from bytes LineLost
    ≡ datagram_effect s totals (Control slot) from bytes (TextsLost [])
unfolding datagram_effect
control_line_sure s totals slot from bytes none =
    control_sure s slot from (control_line_of slot bytes) none
