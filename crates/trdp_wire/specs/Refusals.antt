-- The latest give that a wire refused, and the latest take at which it failed.
use Rattle.std.specs.Prelude.{Option, Some, None}
use Rattle.trdp_base.specs.declared.place.Place.{Place}
use Rattle.trdp_wire.specs.declared.port.Port.{Port}
use Rattle.trdp_wire.specs.declared.refusal.GiveRefusal.{GiveRefusal}
use Rattle.trdp_wire.specs.declared.socket_fault.SocketFault.{SocketFault}
use Rattle.trdp_wire.specs.declared.unread.Unread.{Unread}

-- the latest refusal after a give at a port, for a place, which had this fault or none
abbrev pub refusal_after : Port → Place → Option SocketFault → Option GiveRefusal
    → Option GiveRefusal
refusal_after port to None refusal = refusal
refusal_after port to (Some fault) refusal =
    Some (record { port = port; to = to; fault = fault })

-- the latest failure after a take at a port, which had this fault or none
abbrev pub unread_after : Port → Option SocketFault → Option Unread → Option Unread
unread_after port None unread = unread
unread_after port (Some fault) unread = Some (record { port = port; fault = fault })
