-- Places and faults as a system names them.
use Rattle.std.specs.Prelude.{ℕ, ℤ, ◌==◌, if◌then◌else◌, Option, Some, None, Result, Ok, Err}
use Rattle.std.specs.IoError.{error_kind, raw_os_error}
use Rattle.std.specs.declared.io.Error.{Error}
use Rattle.std.specs.declared.io.ErrorKind.{ErrorKind}
use Rattle.std.specs.declared.io.ErrorKind.TheVariants as kind
use Rattle.std.specs.Net.Addr.{ipv4_bits}
use Rattle.std.specs.Net.Socket.{v4_ip, v4_port}
use Rattle.std.specs.declared.net.socket_addr.SocketAddr.{SocketAddr}
use Rattle.std.specs.declared.net.socket_addr.SocketAddr.TheVariants.{V4, V6}
use Rattle.std.specs.declared.net.socket_addr.SocketAddrV4.{SocketAddrV4}
use Rattle.mio.specs.Event.{event_token}
use Rattle.mio.specs.declared.event.event.Event.{Event}
use Rattle.trdp_base.specs.declared.place.Place.{Place}
use Rattle.trdp_wire.specs.declared.bind_fault.BindFault.{BindFault}
use Rattle.trdp_wire.specs.declared.bind_fault.BindFault.TheVariants.{Bind, OutOfMemory}
use Rattle.trdp_wire.specs.declared.socket_fault.SocketFault.{SocketFault}

-- the number by which a system reports a source
abbrev pub source_number : Event → ℕ
source_number event = (event_token event).0

-- a system's address as a place
abbrev pub place_of_address : SocketAddrV4 → Place
place_of_address address =
    record { ip = record { 0 = ipv4_bits (v4_ip address) }; port = v4_port address }

-- what it means that a system refuses a socket with an error of this kind
abbrev pub bind_fault_of : ErrorKind → BindFault
bind_fault_of kind.OutOfMemory = OutOfMemory
bind_fault_of _ = Bind

-- the fault of a socket, by the system's number of its error, where it has one
abbrev pub socket_fault : Option ℤ → SocketFault
socket_fault code = record { code = code }

-- what a take answers where a system doesn't take, with an error of this kind and number
abbrev pub untaken_of : ErrorKind → Option ℤ → Result (Option (Place × ℕ)) SocketFault
untaken_of kind.WouldBlock code = Ok None
untaken_of _ code = Err (socket_fault code)

-- what a take answers to what a system says: where a datagram came from, and how many bytes it has
abbrev pub received_of :
    Result (ℕ × SocketAddr) Error → Result (Option (Place × ℕ)) SocketFault
received_of (Ok (len, V4 from)) = Ok (Some (place_of_address from, len))
received_of (Ok (len, V6 from)) = Ok None
received_of (Err error) = untaken_of (error_kind error) (raw_os_error error)

-- what a give of that many bytes answers to how many a system says that it sent
abbrev pub sent_of : Result ℕ Error → ℕ → Result (Unit {0}) SocketFault
sent_of (Ok count) len = if count == len then Ok tt else Err (socket_fault None)
sent_of (Err error) len = Err (socket_fault (raw_os_error error))
