use Rattle.std.proofs.Common.{◌≡◌, ◌<◌, ◌+◌, ◌++◌, ℕ, List, arith, drop, length, map}
use Rattle.std.proofs.Common.{sym, subst}
use Rattle.std.proofs.Common.{Option}
use Rattle.std.specs.Prelude.{slice_get, unwrap_or}
use Rattle.trdp_wire.specs.declared.port.Port.{Port}
use Rattle.trdp_wire.specs.declared.port.Port.TheVariants.{Operator, Control}
use Rattle.trdp_dataset.specs.Configs.{ConfigModel}
use Rattle.trdp_udp.specs.Openings.{call_of_request}
use Rattle.trdp_wire.specs.Ports.{control_numbers, control_ports, line_ports, place_of_port}
use Rattle.trdp_wire.specs.Ports.{port_unless_0}
use Rattle.trdp_wire.specs.Sockets.{SocketCall}
use Rattle.trdp_base.specs.Reported.{TellsMore}
use Rattle.trdp_wire.proofs.ControlPortLemmas.{control_next, control_end, numbers_count}
use Rattle.trdp_udp.proofs.SocketLemmas.{Asked, asked_first, asked_more, asked_stops, asked_all}
use Rattle.trdp_udp.proofs.SocketLemmas.{stops_with}
use Rattle.trdp_udp.proofs.opening.ask_for_lines.Goals as goal

-- all was asked but for the control ports of a slot, which has this number, and those after it
next_slot : (f : Port → SocketCall) (config : ConfigModel) (slot number : ℕ)
    (a b : Option (List SocketCall)) → number ≡ slot → slot < length (control_numbers config)
    → Asked f (line_ports config) a b (control_ports slot (drop slot (control_numbers config)))
    → Asked f (line_ports config) a b (port_unless_0
    (place_of_port config (Control number)).port (Control number)
    ++ control_ports (slot + 1) (drop (slot + 1) (control_numbers config)))
next_slot f config slot number a b is below asked =
    subst (λ (n : ℕ). Asked f (line_ports config) a b (port_unless_0
    (unwrap_or (slice_get (control_numbers config) n) 0) (Control n)
    ++ control_ports (slot + 1) (drop (slot + 1) (control_numbers config)))) (sym is)
    (subst (λ (l : List Port). Asked f (line_ports config) a b l)
    (control_next (control_numbers config) slot below) asked)

all_asked : (f : Port → SocketCall) (config : ConfigModel) (slot : ℕ)
    (a b : Option (List SocketCall)) → length (control_numbers config) ≡ slot
    → Asked f (line_ports config) a b (control_ports slot (drop slot (control_numbers config)))
    → TellsMore a b (map f (line_ports config))
all_asked f config slot a b end asked =
    asked_all f (line_ports config) a b
    (subst (λ (l : List Port). Asked f (line_ports config) a b l)
    (control_end (control_numbers config) slot end) asked)

pub returns-in_err-ask_unless_0 : goal.returns-in_err-ask_unless_0
returns-in_err-ask_unless_0 g c =
    let f = call_of_request c.args.config.now c.args.request in
    let config = c.args.config.now in
    stops_with _ _ _ c.from_residual.result c.in_err-ask_unless_0.field-0.0
    c.from_residual.ensures.1
    (asked_stops f (line_ports config) (port_unless_0 config.operator_port Operator)
    (control_ports 0 (control_numbers config)) c.in_err-ask_unless_0.field-0.0 _ _ _
    (asked_first f (line_ports config) _) c.in_err-ask_unless_0.ensures)

pub loop-slot-init : goal.loop-slot-init
loop-slot-init g c =
    let f = call_of_request c.args.config.now c.args.request in
    let config = c.args.config.now in
    asked_more f (line_ports config) (port_unless_0 config.operator_port Operator)
    (control_ports 0 (control_numbers config)) _ _ _ (asked_first f (line_ports config) _)
    c.in_ok-ask_unless_0.ensures

pub returns-in_err-ask_unless_0-2 : goal.returns-in_err-ask_unless_0-2
returns-in_err-ask_unless_0-2 g c =
    let f = call_of_request c.args.config.now c.args.request in
    let config = c.args.config.now in
    let slot = c.loop-slot.slot in
    let number = c.slot_number.result in
    let below : slot < length (control_numbers config) = omega (
      arith,
      c.loop-slot-test.true,
      c.slots.ensures.value,
      c.spare_control_ports.ensures.value,
      numbers_count config.slots config.spare_control_ports,
    ) in
    stops_with _ _ _ c.from_residual-in_err-ask_unless_0-2.result
    c.in_err-ask_unless_0-2.field-0.0 c.from_residual-in_err-ask_unless_0-2.ensures.1
    (asked_stops f (line_ports config)
    (port_unless_0 (place_of_port config (Control number)).port (Control number))
    (control_ports (slot + 1) (drop (slot + 1) (control_numbers config)))
    c.in_err-ask_unless_0-2.field-0.0 _ _ _
    (next_slot f config slot number _ _ c.slot_number.ensures below c.loop-slot.invariant)
    c.in_err-ask_unless_0-2.ensures)

pub loop-slot-preserved : goal.loop-slot-preserved
loop-slot-preserved g c =
    let f = call_of_request c.args.config.now c.args.request in
    let config = c.args.config.now in
    let slot = c.loop-slot.slot in
    let number = c.slot_number.result in
    let below : slot < length (control_numbers config) = omega (
      arith,
      c.loop-slot-test.true,
      c.slots.ensures.value,
      c.spare_control_ports.ensures.value,
      numbers_count config.slots config.spare_control_ports,
    ) in
    asked_more f (line_ports config)
    (port_unless_0 (place_of_port config (Control number)).port (Control number))
    (control_ports (slot + 1) (drop (slot + 1) (control_numbers config))) _ _ _
    (next_slot f config slot number _ _ c.slot_number.ensures below c.loop-slot.invariant)
    c.in_ok-ask_unless_0-2.ensures

pub returns : goal.returns
returns g c =
    let end : length (control_numbers c.args.config.now) ≡ c.loop-slot.slot = omega (
      arith,
      c.loop-slot-test.false,
      c.loop-slot.auto.slot-end,
      c.slots.ensures.value,
      c.spare_control_ports.ensures.value,
      numbers_count c.args.config.now.slots c.args.config.now.spare_control_ports,
    ) in
    all_asked (call_of_request c.args.config.now c.args.request) c.args.config.now
    c.loop-slot.slot _ _ end c.loop-slot.invariant
