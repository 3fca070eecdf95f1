-- What is asked for the ports of a node before its first turn.
use Rattle.std.specs.Prelude.{List, map}
use Rattle.trdp_dataset.specs.Configs.{ConfigModel}
use Rattle.trdp_udp.specs.declared.bound_ports.BoundPorts.{BoundPorts}
use Rattle.trdp_udp.specs.declared.bound_ports.BoundPorts.TheVariants.{All, Network}
use Rattle.trdp_udp.specs.declared.opening.PortRequest.{PortRequest}
use Rattle.trdp_udp.specs.declared.opening.PortRequest.TheVariants.{Bind, Watch}
use Rattle.trdp_wire.specs.declared.port.Port.{Port}
use Rattle.trdp_wire.specs.Ports.{network_ports, ports_of}
use Rattle.trdp_wire.specs.Sockets.{SocketCall, bind_of, watch_of}

-- the call of a request for a port, as granted
abbrev pub call_of_request : ConfigModel → PortRequest → Port → SocketCall
call_of_request config Bind port = bind_of config port
call_of_request config (Watch alloc) port = watch_of config port

-- the ports that have sockets, in the order of a turn
abbrev pub bound_ports : BoundPorts → ConfigModel → List Port
bound_ports All config = ports_of config
bound_ports Network config = network_ports config

-- their sockets are bound, one after another
abbrev pub binds_of : BoundPorts → ConfigModel → List SocketCall
binds_of which config = map (bind_of config) (bound_ports which config)

-- they are watched, one after another
abbrev pub watches_of : BoundPorts → ConfigModel → List SocketCall
watches_of which config = map (watch_of config) (bound_ports which config)
