use Rattle.std.proofs.Common.{drop}
use Rattle.trdp_udp.specs.Openings.{call_of_request}
use Rattle.trdp_wire.specs.Ports.{group_ports, network_ports}
use Rattle.trdp_udp.proofs.SocketLemmas.{Asked}
use Rattle.trdp_udp.proofs.opening.ask_for_network.Given as goal

-- all was asked but for the ports of the groups to come
abbrev pub invariant-loop-group : goal.invariant-loop-group
invariant-loop-group g l = Asked (call_of_request l.config l.request) (network_ports l.config)
    (g.S.Sockets.calls l.fn.sockets) (g.S.Sockets.calls l.sockets)
    (group_ports (drop l.group-index l.config.groups))
