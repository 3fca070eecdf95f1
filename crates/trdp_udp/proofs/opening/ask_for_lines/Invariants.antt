use Rattle.std.proofs.Common.{drop}
use Rattle.trdp_udp.specs.Openings.{call_of_request}
use Rattle.trdp_wire.specs.Ports.{control_numbers, control_ports, line_ports}
use Rattle.trdp_udp.proofs.SocketLemmas.{Asked}
use Rattle.trdp_udp.proofs.opening.ask_for_lines.Given as goal

-- all was asked but for the control ports of the slots to come
abbrev pub invariant-loop-slot : goal.invariant-loop-slot
invariant-loop-slot g l = Asked (call_of_request l.config l.request) (line_ports l.config)
    (g.S.Sockets.calls l.fn.sockets) (g.S.Sockets.calls l.sockets)
    (control_ports l.slot (drop l.slot (control_numbers l.config)))
