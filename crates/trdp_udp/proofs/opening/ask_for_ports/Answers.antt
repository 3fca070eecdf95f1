use Rattle.std.proofs.Common.{List, Option, map, sym, subst}
use Rattle.std.proofs.lemmas.List.{map-append}
use Rattle.trdp_dataset.specs.Configs.{ConfigModel}
use Rattle.trdp_udp.specs.declared.bound_ports.BoundPorts.{BoundPorts}
use Rattle.trdp_udp.specs.declared.bound_ports.BoundPorts.TheVariants.{All, Network}
use Rattle.trdp_udp.specs.Openings.{bound_ports, call_of_request}
use Rattle.trdp_udp.proofs.SocketLemmas.{made_behind, stops_before, stops_with}
use Rattle.trdp_udp.proofs.opening.ask_for_ports.Goals as goal
use Rattle.trdp_wire.specs.declared.bind_fault.BindFault.{BindFault}
use Rattle.trdp_wire.specs.declared.port.Port.{Port}
use Rattle.trdp_wire.specs.Ports.{line_ports, network_ports, ports_of}
use Rattle.trdp_wire.specs.Sockets.{MadeInTurn, SocketCall, StopsAtOne, fault_of_result}
use Rattle.trdp_base.specs.Reported.{TellsMore}

-- one of the network's ports was refused
network_stops : (f : Port → SocketCall) (config : ConfigModel) (which : BoundPorts)
    (fault : BindFault) (a b : Option (List SocketCall))
    → StopsAtOne (map f (network_ports config)) fault a b
    → StopsAtOne (map f (bound_ports which config)) fault a b
unfolding ports_of
network_stops f config All fault a b stop =
    subst (λ (l : List SocketCall). StopsAtOne l fault a b)
    (sym (map-append f (network_ports config) (line_ports config)))
    (stops_before fault (map f (network_ports config)) (map f (line_ports config)) a b stop)
network_stops f config Network fault a b stop = stop

-- the network's ports were asked, and then those at which lines come
lines_behind : (f : Port → SocketCall) (config : ConfigModel) (fault : Option BindFault)
    (a b c : Option (List SocketCall)) → TellsMore a b (map f (network_ports config))
    → MadeInTurn (map f (line_ports config)) fault b c
    → MadeInTurn (map f (ports_of config)) fault a c
unfolding ports_of
lines_behind f config fault a b c network lines =
    subst (λ (l : List SocketCall). MadeInTurn l fault a c)
    (sym (map-append f (network_ports config) (line_ports config)))
    (made_behind (map f (network_ports config)) (map f (line_ports config)) fault a b c network
    lines)

pub returns-in_err-ask_for_network : goal.returns-in_err-ask_for_network
returns-in_err-ask_for_network g c = stops_with _ _ _ c.from_residual.result
    c.in_err-ask_for_network.field-0.0 c.from_residual.ensures.1
    (network_stops (call_of_request c.args.config.now c.args.request) c.args.config.now c.args.which
    c.in_err-ask_for_network.field-0.0 _ _ c.in_err-ask_for_network.ensures)

pub returns-in-All : goal.returns-in-All
returns-in-All g c = rw c.in-All.is (lines_behind
    (call_of_request c.args.config.now c.args.request) c.args.config.now
    (fault_of_result c.ask_for_lines.result) _ _ _ c.in_ok-ask_for_network.ensures
    c.ask_for_lines.ensures)
