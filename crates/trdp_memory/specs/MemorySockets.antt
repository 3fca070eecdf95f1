-- What sockets in memory remember of their calls.
use Rattle.std.specs.Prelude.{◌≡◌, ◌==◌, List, [], ◌∷◌, map}
use Rattle.std.specs.Prelude.{Option, Some, None, Result, Ok, Err}
use Rattle.std.specs.declared.alloc.AllocError.{AllocError}
use Rattle.trdp_base.specs.declared.place.Ip.{Ip}
use Rattle.trdp_memory.specs.declared.memory_sockets.MemorySockets.{MemorySockets}
use Rattle.trdp_memory.specs.declared.memory_sockets.SocketRow.{SocketRow}
use Rattle.trdp_memory.specs.declared.memory_sockets.SocketRow.TheVariants as row
use Rattle.trdp_wire.specs.declared.socket_fault.SocketFault.{SocketFault}
use Rattle.trdp_memory.specs.MemoryWires.{told, no_way_if}
use Rattle.trdp_wire.specs.Sockets.{SocketCall, Binds, TakesFrom, GivesFrom, Watches, Waits}
use Rattle.trdp_base.specs.Reported.{TellsMore}
use Rattle.trdp_wire.specs.Told.{Nothing, Came}

-- the call that is remembered so
abbrev pub call_of : SocketRow → SocketCall
call_of (row.Bound socket place ttl) = Binds socket place ttl None
call_of (row.Taken socket room None) = TakesFrom socket room Nothing
call_of (row.Taken socket room (Some found)) =
    TakesFrom socket room (Came found.0 found.1.items)
call_of (row.Given socket to bytes) = GivesFrom socket to bytes.items None
call_of (row.Refused socket to bytes fault) = GivesFrom socket to bytes.items (Some fault)
call_of (row.Watched socket) = Watches socket None
call_of (row.Waited millis told) = Waits millis told.items

-- the fault of a give for an address, where no way leads to this one
abbrev pub give_fault : Option Ip → Ip → Option SocketFault
give_fault None ip = None
give_fault (Some far) ip = no_way_if (far.0 == ip.0)

-- what they report
abbrev pub told_calls : MemorySockets → Option (List SocketCall)
told_calls sockets = told sockets.tells (map call_of sockets.rows.items)

-- this is remembered too; nothing is reported where an allocation for it failed
abbrev pub Notes : Result SocketRow AllocError → Option (List SocketCall)
    → Option (List SocketCall) → Type 0
Notes (Ok r) old new = TellsMore old new (call_of r ∷ [])
Notes (Err fault) old new = new ≡ None
