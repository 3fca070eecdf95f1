-- What a wire over sockets does with its calls.
use Rattle.std.specs.Prelude.{◌≡◌, ℕ, ◌-◌, ◌^◌, nat_lt, List, [], ◌∷◌, length, codes}
use Rattle.std.specs.Prelude.{Bool, true, false, ◌&&◌, ◌==◌, if◌then◌else◌}
use Rattle.std.specs.Prelude.{Option, is_some, Result, is_err}
use Rattle.std.specs.List.{starts_with}
use Rattle.trdp_base.specs.declared.place.Place.{Place}
use Rattle.trdp_wire.specs.declared.fault.WireFault.{WireFault}
use Rattle.trdp_wire.specs.declared.port.Port.{Port}
use Rattle.trdp_wire.specs.declared.port.Port.TheVariants.{Pd, Md, PdGroup, MdGroup}
use Rattle.trdp_wire.specs.declared.port.Port.TheVariants.{Operator, Control}
use Rattle.trdp_wire.specs.declared.refusal.GiveRefusal.{GiveRefusal}
use Rattle.trdp_wire.specs.declared.socket_fault.SocketFault.{SocketFault}
use Rattle.trdp_wire.specs.declared.unread.Unread.{Unread}
use Rattle.trdp_base.specs.Reported.{TellsMore}
use Rattle.trdp_wire.specs.Told.{has_failed, Arrived, Failed, Nothing, Came, arrived_in}
use Rattle.trdp_wire.specs.Failures.{failure_after, one_more_if}
use Rattle.trdp_wire.specs.Refusals.{refusal_after, unread_after}
use Rattle.trdp_wire.specs.Sockets.{SocketCall, TakesFrom, GivesFrom, socket_of}

-- whether what comes to a port is a line
abbrev pub takes_lines : Port → Bool
takes_lines Pd = false
takes_lines Md = false
takes_lines (PdGroup group) = false
takes_lines (MdGroup group) = false
takes_lines Operator = true
takes_lines (Control slot) = true

-- whether these bytes begin as each answer does to a datagram that was no line
unfoldable pub begins_as_answer : List ℕ → Bool
begins_as_answer bytes = starts_with (λ a b. a == b) bytes (codes "line fault ")

-- whether a datagram at a port is such an answer, which isn't answered: else two ports could
-- answer each other for ever
unfoldable pub is_answer_at : Port → List ℕ → Bool
is_answer_at port bytes = takes_lines port && begins_as_answer bytes

-- what a take at a port hands in of what arrived at its socket, where the wire had failed that
-- often: all but answers
unfoldable pub handed_in : ℕ → Port → Arrived → Arrived
handed_in failures port Failed = failure_after failures
handed_in failures port Nothing = Nothing
handed_in failures port (Came from bytes) =
    if is_answer_at port bytes then Nothing else Came from bytes

-- whether something was heard at a take: a datagram, also one that isn't handed in, or a failure
abbrev pub is_heard : Arrived → Bool
is_heard Failed = true
is_heard Nothing = false
is_heard (Came from bytes) = true

-- one take was made, at the port's socket among those of these groups and with the whole room, and
-- it answers what is handed in of what arrived there; whether something was heard. The latest
-- failure is then this one, if it failed
pub record TakesAtSocket (groups : List ℕ) (old new : Option (List SocketCall)) (port : Port)
    (room : List ℕ) (result : Result (Option (Place × ℕ)) WireFault) (failures failures_then : ℕ)
    (heard : Bool) (unread unread_then : Option Unread) : Type 0 where
  pub arrived : Arrived
  pub asked : TellsMore old new (TakesFrom (socket_of groups port) (length room) arrived ∷ [])
  pub answer : arrived_in result room ≡ handed_in failures port arrived
  pub counted : failures_then ≡ one_more_if (has_failed (arrived_in result room)) failures
  pub noted : heard ≡ is_heard arrived
  pub fault : Option SocketFault
  pub failed : is_some fault ≡ has_failed arrived
  pub kept : unread_then ≡ unread_after port fault unread

-- one give was made, from the port's socket, of these bytes to that place. It answers whether that
-- was refused, unless the count of failures is at its last value; the latest refusal is then this
-- one, if it was
pub record GivesAtSocket (groups : List ℕ) (old new : Option (List SocketCall)) (port : Port)
    (to : Place) (bytes : List ℕ) (result : Result (Unit {0}) WireFault) (failures failures_then : ℕ)
    (refusal refusal_then : Option GiveRefusal) : Type 0 where
  pub fault : Option SocketFault
  pub asked : TellsMore old new (GivesFrom (socket_of groups port) to bytes fault ∷ [])
  pub answer : is_err result ≡ is_some fault && nat_lt failures (2 ^ 64 - 1)
  pub counted : failures_then ≡ one_more_if (is_err result) failures
  pub kept : refusal_then ≡ refusal_after port to fault refusal
