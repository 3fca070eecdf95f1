use Rattle.std.proofs.Common.{◌+◌, [], ◌∷◌, arith, drop, get_or}
use Rattle.trdp_wire.specs.declared.port.Port.TheVariants.{Pd, Md, PdGroup, MdGroup}
use Rattle.trdp_udp.specs.Openings.{call_of_request}
use Rattle.trdp_wire.specs.Ports.{group_ports, network_ports}
use Rattle.trdp_udp.proofs.GroupPortLemmas.{last_group, next_group}
use Rattle.trdp_udp.proofs.SocketLemmas.{asked_first, asked_more, asked_stops, stops_with}
use Rattle.trdp_udp.proofs.opening.ask_for_network.Goals as goal

pub returns-in_err-ask : goal.returns-in_err-ask
returns-in_err-ask g c =
    let f = call_of_request c.args.config.now c.args.request in
    let config = c.args.config.now in
    let all = network_ports config in
    stops_with _ _ _ c.from_residual.result c.in_err-ask.field-0.0 c.from_residual.ensures.1
    (asked_stops f all (Pd ∷ []) (Md ∷ group_ports config.groups) c.in_err-ask.field-0.0 _ _ _
    (asked_first f all _) c.in_err-ask.ensures)

pub returns-in_err-ask-2 : goal.returns-in_err-ask-2
returns-in_err-ask-2 g c =
    let f = call_of_request c.args.config.now c.args.request in
    let config = c.args.config.now in
    let all = network_ports config in
    stops_with _ _ _ c.from_residual-in_err-ask-2.result c.in_err-ask-2.field-0.0
    c.from_residual-in_err-ask-2.ensures.1
    (asked_stops f all (Md ∷ []) (group_ports config.groups) c.in_err-ask-2.field-0.0 _ _ _
    (asked_more f all (Pd ∷ []) (Md ∷ group_ports config.groups) _ _ _ (asked_first f all _)
    c.in_ok-ask.ensures) c.in_err-ask-2.ensures)

pub loop-group-init : goal.loop-group-init
loop-group-init g c =
    let f = call_of_request c.args.config.now c.args.request in
    let config = c.args.config.now in
    let all = network_ports config in
    asked_more f all (Md ∷ []) (group_ports config.groups) _ _ _
    (asked_more f all (Pd ∷ []) (Md ∷ group_ports config.groups) _ _ _ (asked_first f all _)
    c.in_ok-ask.ensures) c.in_ok-ask-2.ensures

pub returns-in_err-ask-3 : goal.returns-in_err-ask-3
returns-in_err-ask-3 g c =
    let f = call_of_request c.args.config.now c.args.request in
    let config = c.args.config.now in
    let all = network_ports config in
    let known = c.groups-group-items.result.now in
    let index = c.loop-group.group-index in
    let group = get_or known index 0 in
    stops_with _ _ _ c.from_residual-in_err-ask-3.result c.in_err-ask-3.field-0.0
    c.from_residual-in_err-ask-3.ensures.1
    (asked_stops f all (PdGroup group ∷ [])
    (MdGroup group ∷ group_ports (drop (index + 1) config.groups)) c.in_err-ask-3.field-0.0 _ _ _
    (next_group f all config.groups known index _ _ c.groups-group-items.ensures.value
    c.loop-group-test.true c.loop-group.invariant) c.in_err-ask-3.ensures)

pub returns-in_err-ask-4 : goal.returns-in_err-ask-4
returns-in_err-ask-4 g c =
    let f = call_of_request c.args.config.now c.args.request in
    let config = c.args.config.now in
    let all = network_ports config in
    let known = c.groups-group-items.result.now in
    let index = c.loop-group.group-index in
    let group = get_or known index 0 in
    let behind = group_ports (drop (index + 1) config.groups) in
    stops_with _ _ _ c.from_residual-in_err-ask-4.result c.in_err-ask-4.field-0.0
    c.from_residual-in_err-ask-4.ensures.1
    (asked_stops f all (MdGroup group ∷ []) behind c.in_err-ask-4.field-0.0 _ _ _
    (asked_more f all (PdGroup group ∷ []) (MdGroup group ∷ behind) _ _ _
    (next_group f all config.groups known index _ _ c.groups-group-items.ensures.value
    c.loop-group-test.true c.loop-group.invariant) c.in_ok-ask-3.ensures) c.in_err-ask-4.ensures)

pub loop-group-preserved : goal.loop-group-preserved
loop-group-preserved g c =
    let f = call_of_request c.args.config.now c.args.request in
    let config = c.args.config.now in
    let all = network_ports config in
    let known = c.groups-group-items.result.now in
    let index = c.loop-group.group-index in
    let group = get_or known index 0 in
    let behind = group_ports (drop (index + 1) config.groups) in
    asked_more f all (MdGroup group ∷ []) behind _ _ _
    (asked_more f all (PdGroup group ∷ []) (MdGroup group ∷ behind) _ _ _
    (next_group f all config.groups known index _ _ c.groups-group-items.ensures.value
    c.loop-group-test.true c.loop-group.invariant) c.in_ok-ask-3.ensures) c.in_ok-ask-4.ensures

pub returns : goal.returns
returns g c =
    let config = c.args.config.now in
    last_group (call_of_request config c.args.request) (network_ports config) config.groups
    c.groups-group-items.result.now c.loop-group.group-index _ _
    c.groups-group-items.ensures.value (omega (arith, c.loop-group-test.false))
    c.loop-group.invariant
