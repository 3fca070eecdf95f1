-- Where no loss is counted, nothing was lost.
-- For `nothing_missed`.
-- By cases on each visit of each turn: a sum of losses that is 0 has none.
use Rattle.std.proofs.Common.{◌≡◌, ℕ, Bool, true, false, List, [], ◌∷◌, Option, Some, None}
use Rattle.std.proofs.Common.{Result, Ok, Err, refl, ◌∙◌, ap, arith, map, if◌then◌else◌}
use Rattle.trdp_base.specs.declared.place.Place.{Place}
use Rattle.trdp_model.specs.Events.{EventModel, CallIs, ResetCall}
use Rattle.trdp_model.specs.Records.{RecordModel, Content, Answers, Indicates, Sends}
use Rattle.trdp_text.specs.EventBytes.{carries_bytes}
use Rattle.trdp_text.specs.declared.fault.LineFault.{LineFault}
use Rattle.trdp_text.specs.PortLines.{OperatorSays, Orders, Asks}
use Rattle.trdp_text.specs.PortLines.{control_line_of, operator_line_of}
use Rattle.trdp_text.specs.RecordText.{text_of_record}
use Rattle.trdp_wire.specs.declared.port.Port.{Port}
use Rattle.trdp_wire.specs.declared.port.Port.TheVariants.{Pd, Md, PdGroup, MdGroup}
use Rattle.trdp_wire.specs.declared.port.Port.TheVariants.{Operator, Control}
use Rattle.trdp_daemon.specs.declared.contact.Contact.{Contact}
use Rattle.trdp_daemon.specs.declared.totals.Totals.{Totals}
use Rattle.trdp_wire.specs.Told.{Arrived, Failed, Nothing, Came}
use Rattle.trdp_daemon.specs.Effects.{both, text_telling, contact_place, content_telling}
use Rattle.trdp_daemon.specs.Effects.{record_telling, is_first_lost, later_marks, records_telling}
use Rattle.trdp_daemon.specs.Effects.{event_records, ServiceState, Loss, LineLost, EventLost}
use Rattle.trdp_daemon.specs.Effects.{TextsLost, then_effect, telling_only, event_effect}
use Rattle.trdp_daemon.specs.Effects.{event_taken, Effect, may_take_memory, missing, still}
use Rattle.trdp_daemon.specs.Leases.{end_effect, ended_effect, is_silent, forgotten, quiet_effect}
use Rattle.trdp_daemon.specs.Visits.{operator_answer, operator_taken, operator_event}
use Rattle.trdp_daemon.specs.Visits.{operator_effect, heard_from, control_event}
use Rattle.trdp_daemon.specs.Visits.{came_effect, control_effect, datagram_effect, lives_still}
use Rattle.trdp_daemon.specs.Visits.{taking_effect}
use Rattle.trdp_daemon.specs.Turns.{Visit, visit_effect, visits_effect, Turn, turn_effect}
use Rattle.trdp_daemon.specs.Turns.{begun, moment_effect, turns_effect, moment_of}
use Rattle.trdp_daemon.specs.Turns.{unlost, unlost_visit}
use Rattle.trdp_daemon.proofs.TurnLemmas.{effect_of}

text_kept : (slot : ℕ) (to : Option Place) (lost : Bool) (text : List ℕ)
    → (text_telling slot to lost text).missed ≡ 0
    → text_telling slot to lost text ≡ text_telling slot to false text
unfolding text_telling
text_kept slot None lost text none = refl
text_kept slot (Some to) true text none = absurd (omega (arith, none))
text_kept slot (Some to) false text none = refl

record_kept : (contacts : List (Option Contact)) (lost : Bool) (r : RecordModel) (content : Content)
    → (content_telling contacts lost r content).missed ≡ 0
    → content_telling contacts lost r content ≡ content_telling contacts false r content
unfolding content_telling
record_kept contacts lost r (Answers answer) none =
    text_kept r.slot (contact_place contacts r.slot) lost (text_of_record r) none
record_kept contacts lost r (Indicates indication) none =
    text_kept r.slot (contact_place contacts r.slot) lost (text_of_record r) none
record_kept contacts lost r (Sends protocol to telegram) none = refl

records_kept : (contacts : List (Option Contact)) (marks : List Bool) (records : List RecordModel)
    → (records_telling contacts marks records).missed ≡ 0
    → records_telling contacts marks records ≡ records_telling contacts [] records
records_kept contacts marks [] none = refl
records_kept contacts marks (r ∷ records) none =
    let first : (record_telling contacts (is_first_lost marks) r).missed ≡ 0 = omega (arith, none) in
    let rest : (records_telling contacts (later_marks marks) records).missed ≡ 0 =
    omega (arith, none) in
    ap (λ t. both t (records_telling contacts (later_marks marks) records))
    (record_kept contacts (is_first_lost marks) r r.content first)
    ∙ ap (λ t. both (record_telling contacts false r) t)
    (records_kept contacts (later_marks marks) records rest)

lost_kept : (b : Bool) (s : ServiceState) (effect : Effect)
    → (if b then telling_only s missing else effect).telling.missed ≡ 0
    → (if b then telling_only s missing else effect) ≡ effect
lost_kept true s effect none = absurd (omega (arith, none))
lost_kept false s effect none = refl

event_kept : (s : ServiceState) (event : EventModel) (loss : Loss)
    → (event_effect s event loss).telling.missed ≡ 0
    → event_effect s event loss ≡ event_effect s event (TextsLost [])
unfolding event_effect
event_kept s event LineLost none =
    lost_kept (may_take_memory s.node event) s (event_taken s event []) none
event_kept s event EventLost none =
    lost_kept (may_take_memory s.node event) s (event_taken s event []) none
event_kept s event (TextsLost marks) none =
    ap (effect_of (event_effect s event (TextsLost marks)).service)
    (records_kept s.contacts marks (event_records s.node event) none)

operator_event_kept : (s : ServiceState) (from : Place) (event : EventModel) (loss : Loss)
    → (operator_event s from event loss).telling.missed ≡ 0
    → operator_event s from event loss ≡ operator_event s from event (TextsLost [])
unfolding operator_event
operator_event_kept s from event LineLost none = refl
operator_event_kept s from event EventLost none =
    lost_kept (may_take_memory s.node event) s (operator_taken s from event []) none
operator_event_kept s from event (TextsLost marks) none =
    let first : (event_effect s event (TextsLost marks)).telling.missed ≡ 0 = omega (arith, none) in
    ap (λ e. then_effect e (λ after. telling_only after (operator_answer s from event)))
    (event_kept s event (TextsLost marks) first)

operator_kept : (s : ServiceState) (from : Place) (totals : Totals)
    (line : Result (Option OperatorSays) LineFault) (loss : Loss)
    → (operator_effect s from totals line loss).telling.missed ≡ 0
    → operator_effect s from totals line loss ≡ operator_effect s from totals line (TextsLost [])
unfolding operator_effect
operator_kept s from totals (Err fault) loss none = refl
operator_kept s from totals (Ok None) loss none = refl
operator_kept s from totals (Ok (Some (Orders event))) loss none =
    operator_event_kept s from event loss none
operator_kept s from totals (Ok (Some (Asks question))) loss none = refl

control_event_kept : (s : ServiceState) (slot : ℕ) (from : Place) (event : EventModel) (loss : Loss)
    → (control_event s slot from event loss).telling.missed ≡ 0
    → control_event s slot from event loss ≡ control_event s slot from event (TextsLost [])
unfolding control_event
control_event_kept s slot from event LineLost none =
    lost_kept (carries_bytes (Some event)) (lives_still s slot)
    (event_effect (heard_from s slot from) event (TextsLost [])) none
control_event_kept s slot from event EventLost none =
    event_kept (heard_from s slot from) event EventLost none
control_event_kept s slot from event (TextsLost marks) none =
    event_kept (heard_from s slot from) event (TextsLost marks) none

control_kept : (s : ServiceState) (slot : ℕ) (from : Place)
    (line : Result (Option EventModel) LineFault) (loss : Loss)
    → (control_effect s slot from line loss).telling.missed ≡ 0
    → control_effect s slot from line loss ≡ control_effect s slot from line (TextsLost [])
unfolding control_effect
control_kept s slot from (Err fault) loss none = refl
control_kept s slot from (Ok None) loss none = refl
control_kept s slot from (Ok (Some event)) loss none =
    control_event_kept s slot from event loss none

datagram_kept : (s : ServiceState) (totals : Totals) (port : Port) (from : Place) (bytes : List ℕ)
    (loss : Loss) → (datagram_effect s totals port from bytes loss).telling.missed ≡ 0
    → datagram_effect s totals port from bytes loss
    ≡ datagram_effect s totals port from bytes (TextsLost [])
unfolding datagram_effect
datagram_kept s totals Pd from bytes loss none = event_kept s _ loss none
datagram_kept s totals Md from bytes loss none = event_kept s _ loss none
datagram_kept s totals (PdGroup group) from bytes loss none = event_kept s _ loss none
datagram_kept s totals (MdGroup group) from bytes loss none = event_kept s _ loss none
datagram_kept s totals Operator from bytes loss none =
    operator_kept s from totals (operator_line_of bytes) loss none
datagram_kept s totals (Control slot) from bytes loss none =
    control_kept s slot from (control_line_of slot bytes) loss none

end_kept : (s : ServiceState) (slot : ℕ) (loss : Loss)
    → (end_effect s slot loss).telling.missed ≡ 0
    → end_effect s slot loss ≡ end_effect s slot (TextsLost [])
end_kept s slot loss none = event_kept (forgotten s slot) (CallIs slot ResetCall) loss none

silence_kept : (silent : Bool) (s : ServiceState) (slot : ℕ) (loss : Loss)
    → (if silent then end_effect s slot loss else still s).telling.missed ≡ 0
    → (if silent then end_effect s slot loss else still s)
    ≡ (if silent then end_effect s slot (TextsLost []) else still s)
silence_kept true s slot loss none = end_kept s slot loss none
silence_kept false s slot loss none = refl

quiet_kept : (s : ServiceState) (port : Port) (loss : Loss)
    → (quiet_effect s port loss).telling.missed ≡ 0
    → quiet_effect s port loss ≡ quiet_effect s port (TextsLost [])
unfolding quiet_effect
quiet_kept s Pd loss none = refl
quiet_kept s Md loss none = refl
quiet_kept s (PdGroup group) loss none = refl
quiet_kept s (MdGroup group) loss none = refl
quiet_kept s Operator loss none = refl
quiet_kept s (Control slot) loss none = silence_kept (is_silent s slot) s slot loss none

ended_kept : (s : ServiceState) (port : Port) (loss : Loss)
    → (ended_effect s port loss).telling.missed ≡ 0
    → ended_effect s port loss ≡ ended_effect s port (TextsLost [])
unfolding ended_effect
ended_kept s Pd loss none = refl
ended_kept s Md loss none = refl
ended_kept s (PdGroup group) loss none = refl
ended_kept s (MdGroup group) loss none = refl
ended_kept s Operator loss none = refl
ended_kept s (Control slot) loss none = end_kept s slot loss none

came_kept : (ended : Bool) (s : ServiceState) (totals : Totals) (port : Port) (from : Place)
    (bytes : List ℕ) (loss : Loss)
    → (came_effect ended s totals port from bytes loss).telling.missed ≡ 0
    → came_effect ended s totals port from bytes loss
    ≡ came_effect ended s totals port from bytes (TextsLost [])
came_kept true s totals port from bytes loss none = ended_kept s port loss none
came_kept false s totals port from bytes loss none =
    datagram_kept s totals port from bytes loss none

taking_kept : (s : ServiceState) (totals : Totals) (port : Port) (ended : Bool)
    (arrived : Arrived) (loss : Loss)
    → (taking_effect s totals port ended arrived loss).telling.missed ≡ 0
    → taking_effect s totals port ended arrived loss
    ≡ taking_effect s totals port ended arrived (TextsLost [])
unfolding taking_effect
taking_kept s totals port ended Failed loss none = refl
taking_kept s totals port ended Nothing loss none = quiet_kept s port loss none
taking_kept s totals port ended (Came from bytes) loss none =
    came_kept ended s totals port from bytes loss none

visits_kept : (s : ServiceState) (visits : List Visit) → (visits_effect s visits).telling.missed ≡ 0
    → visits_effect s visits ≡ visits_effect s (map unlost_visit visits)
visits_kept s [] none = refl
visits_kept s (visit ∷ visits) none =
    let first = visit_effect s visit in
    let here : first.telling.missed ≡ 0 = omega (arith, none) in
    let rest : (visits_effect first.service visits).telling.missed ≡ 0 = omega (arith, none) in
    ap (λ e. effect_of e.service (both first.telling e.telling))
    (visits_kept first.service visits rest)
    ∙ ap (λ e. then_effect e (λ after. visits_effect after (map unlost_visit visits)))
    (taking_kept s visit.totals visit.taking.port visit.taking.ended visit.taking.arrived visit.loss
    here)

turn_kept : (s : ServiceState) (turn : Turn) → (turn_effect s turn).telling.missed ≡ 0
    → turn_effect s turn ≡ turn_effect s (unlost turn)
turn_kept s turn none =
    let first = moment_effect s turn in
    let here : first.telling.missed ≡ 0 = omega (arith, none) in
    let rest : (visits_effect first.service turn.visits).telling.missed ≡ 0 = omega (arith, none) in
    ap (λ e. effect_of e.service (both first.telling e.telling))
    (visits_kept first.service turn.visits rest)
    ∙ ap (λ e. then_effect e (λ after. visits_effect after (map unlost_visit turn.visits)))
    (event_kept (begun s turn.reading) (moment_of s.node turn.reading) turn.loss here)

pub turns_kept : (s : ServiceState) (turns : List Turn) → (turns_effect s turns).telling.missed ≡ 0
    → turns_effect s turns ≡ turns_effect s (map unlost turns)
turns_kept s [] none = refl
turns_kept s (turn ∷ turns) none =
    let first = turn_effect s turn in
    let here : first.telling.missed ≡ 0 = omega (arith, none) in
    let rest : (turns_effect first.service turns).telling.missed ≡ 0 = omega (arith, none) in
    ap (λ e. effect_of e.service (both first.telling e.telling))
    (turns_kept first.service turns rest)
    ∙ ap (λ e. then_effect e (λ after. turns_effect after (map unlost turns)))
    (turn_kept s turn here)
