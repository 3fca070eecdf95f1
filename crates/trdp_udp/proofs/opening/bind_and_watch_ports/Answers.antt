use Rattle.trdp_udp.specs.Openings.{binds_of, watches_of}
use Rattle.trdp_wire.specs.Sockets.{fault_of_result}
use Rattle.trdp_udp.proofs.SocketLemmas.{made_behind, stops_before, stops_with}
use Rattle.trdp_udp.proofs.opening.bind_and_watch_ports.Goals as goal

pub returns-in_err-ask_for_ports : goal.returns-in_err-ask_for_ports
returns-in_err-ask_for_ports g c = stops_with _ _ _ c.from_residual.result
    c.in_err-ask_for_ports.field-0.0 c.from_residual.ensures.1
    (stops_before c.in_err-ask_for_ports.field-0.0 (binds_of c.args.which c.args.config.now)
    (watches_of c.args.which c.args.config.now) _ _ c.in_err-ask_for_ports.ensures)

pub returns : goal.returns
returns g c = made_behind (binds_of c.args.which c.args.config.now)
    (watches_of c.args.which c.args.config.now)
    (fault_of_result c.ask_for_ports-2.result) _ _ _ c.in_ok-ask_for_ports.ensures
    c.ask_for_ports-2.ensures
