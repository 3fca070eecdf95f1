-- What is asked of the datagram sockets of a system.
use Rattle.std.specs.Prelude.{◌≡◌, ℕ, ◌+◌, ◌*◌, ◌==◌, List, [], ◌∷◌, ◌++◌, length}
use Rattle.std.specs.Prelude.{Option, Some, None, unwrap_or}
use Rattle.std.specs.List.{position}
use Rattle.std.specs.Prelude.{Result, Ok, Err}
use Rattle.trdp_base.specs.declared.place.Place.{Place}
use Rattle.trdp_dataset.specs.Configs.{ConfigModel}
use Rattle.trdp_wire.specs.declared.bind_fault.BindFault.{BindFault}
use Rattle.trdp_wire.specs.declared.port.Port.{Port}
use Rattle.trdp_wire.specs.declared.port.Port.TheVariants.{Pd, Md, PdGroup, MdGroup}
use Rattle.trdp_wire.specs.declared.port.Port.TheVariants.{Operator, Control}
use Rattle.trdp_wire.specs.declared.socket_fault.SocketFault.{SocketFault}
use Rattle.trdp_wire.specs.Ports.{place_of_port}
use Rattle.trdp_base.specs.Reported.{TellsMore}
use Rattle.trdp_wire.specs.Told.{Arrived}

-- one call, with its answer. A socket is bound at a place, with the time to live of what it sends,
-- where it is to be another than the system's. With room for that many bytes, what was taken from
-- it. What was given to it, and the fault if it refused that. A wait ends when a datagram comes
-- there. A wait, of at most that many milliseconds, reports at which sockets something came
pub data SocketCall : Type 0 where
  Binds : (socket : ℕ) (place : Place) (ttl : Option ℕ) (fault : Option BindFault) → SocketCall
  TakesFrom : (socket room : ℕ) (arrived : Arrived) → SocketCall
  GivesFrom : (socket : ℕ) (to : Place) (bytes : List ℕ) (fault : Option SocketFault) → SocketCall
  Watches : (socket : ℕ) (fault : Option BindFault) → SocketCall
  Waits : (millis : ℕ) (told : List ℕ) → SocketCall

-- the fault of an answer
abbrev pub fault_of_result : {X E : Type 0} → Result X E → Option E
fault_of_result (Ok x) = None
fault_of_result (Err fault) = Some fault

-- a call of those that can be refused, refused with this fault
abbrev pub refused_call : BindFault → SocketCall → SocketCall
refused_call fault (Binds socket place ttl answer) = Binds socket place ttl (Some fault)
refused_call fault (TakesFrom socket room arrived) = TakesFrom socket room arrived
refused_call fault (GivesFrom socket to bytes answer) = GivesFrom socket to bytes answer
refused_call fault (Watches socket answer) = Watches socket (Some fault)
refused_call fault (Waits millis told) = Waits millis told

-- of these calls, which are listed as granted, the first ones were made, and then one that was
-- refused with this fault
pub record StopsAtOne (calls : List SocketCall) (fault : BindFault)
    (old new : Option (List SocketCall)) : Type 0 where
  pub granted : List SocketCall
  pub last : SocketCall
  pub behind : List SocketCall
  pub calls_are : calls ≡ granted ++ last ∷ behind
  pub made : TellsMore old new (granted ++ refused_call fault last ∷ [])

-- these calls, which are listed as granted, were made in this order and granted; or up to the
-- first that was refused
abbrev pub MadeInTurn : List SocketCall → Option BindFault → Option (List SocketCall)
    → Option (List SocketCall) → Type 0
MadeInTurn calls None old new = TellsMore old new calls
MadeInTurn calls (Some fault) old new = StopsAtOne calls fault old new

-- the index of a group among these, from 0; the number of them where it is none of them
abbrev pub group_index : List ℕ → ℕ → ℕ
group_index groups group = unwrap_or (position (λ g. g == group) groups) (length groups)

-- the socket of each port, where these are the groups
abbrev pub socket_of : List ℕ → Port → ℕ
socket_of groups Pd = 0
socket_of groups Md = 1
socket_of groups Operator = 2
socket_of groups (Control slot) = 3 + slot
socket_of groups (PdGroup group) = 34 + 2 * group_index groups group
socket_of groups (MdGroup group) = 35 + 2 * group_index groups group

-- the time to live of the telegrams that leave from a port, if any do
abbrev pub ttl_of : ConfigModel → Port → Option ℕ
ttl_of config Pd = Some config.ttl
ttl_of config Md = Some config.ttl
ttl_of config (PdGroup group) = None
ttl_of config (MdGroup group) = None
ttl_of config Operator = None
ttl_of config (Control slot) = None

-- the socket of a port is bound at its place
abbrev pub bind_of : ConfigModel → Port → SocketCall
bind_of config port = Binds (socket_of config.groups port) (place_of_port config port)
    (ttl_of config port) None

-- a wait ends when a datagram comes at a port
abbrev pub watch_of : ConfigModel → Port → SocketCall
watch_of config port = Watches (socket_of config.groups port) None
