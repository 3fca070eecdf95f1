use Rattle.std.proofs.Common.{ap}
use Rattle.trdp_wire.specs.Sockets.{fault_of_result}
use Rattle.trdp_udp.proofs.SocketWireLemmas.{gave}
use Rattle.trdp_udp.proofs.udp_wire.UdpWireWire.give.Goals as goal

pub returns-in-Ok-clause-gives : goal.returns-in-Ok-clause-gives
returns-in-Ok-clause-gives g c =
    gave c.args.self.now.groups _ _ c.args.port c.socket_of.result c.args.to
    c.args.bytes.now c.give.result c.args.self.now.failures c.args.self.now.refusal
    c.socket_of.ensures (ap fault_of_result c.in-Ok.is) c.give.ensures
