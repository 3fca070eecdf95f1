use Rattle.std.proofs.Common.{◌∙◌, ap}
use Rattle.trdp_wire.specs.Sockets.{socket_of}
use Rattle.trdp_udp.proofs.SocketLemmas.{bind_made, watch_made}
use Rattle.trdp_udp.proofs.opening.ask.Goals as goal

pub returns-in-Bind : goal.returns-in-Bind
returns-in-Bind g c = rw c.in-Bind.is (bind_made _ _ c.args.config.now c.args.port
    c.socket_of-socket.result c.place_of_port.result c.ttl_of.result c.bind.result
    (c.socket_of-socket.ensures ∙ ap (λ gs. socket_of gs c.args.port) c.of.ensures)
    c.place_of_port.ensures c.ttl_of.ensures c.bind.ensures)

pub returns-in-Watch : goal.returns-in-Watch
returns-in-Watch g c = rw c.in-Watch.is (watch_made _ _ c.args.config.now c.args.port
    c.socket_of-socket.result c.watch.result
    (c.socket_of-socket.ensures ∙ ap (λ gs. socket_of gs c.args.port) c.of.ensures)
    c.watch.ensures)
