-- A wire in memory: what was laid down for it, and what its calls do with that.
use Rattle.std.specs.Prelude.{ℕ, ◌+◌, ◌-◌, ◌^◌, ◌==◌, ◌&&◌, ◌||◌, nat_lt, List, [], ◌∷◌, ◌++◌}
use Rattle.std.specs.Prelude.{Bool, false, if◌then◌else◌, Option, Some, None}
use Rattle.std.specs.Prelude.{take, drop, length, pos}
use Rattle.std.specs.List.{find, list_any, count_by}
use Rattle.trdp_base.specs.declared.place.Place.{Place}
use Rattle.trdp_wire.specs.declared.port.Port.{Port}
use Rattle.trdp_wire.specs.declared.refusal.GiveRefusal.{GiveRefusal}
use Rattle.trdp_wire.specs.declared.socket_fault.SocketFault.{SocketFault}
use Rattle.trdp_memory.specs.declared.rows.Rest.{Rest}
use Rattle.trdp_wire.specs.Failures.{failure_after, one_more_if}
use Rattle.trdp_wire.specs.Ports.{is_port}
use Rattle.trdp_wire.specs.Refusals.{refusal_after}
use Rattle.trdp_wire.specs.Told.{Arrived, Failed, Nothing, Came, Taking, Give, has_failed}

-- a datagram that was laid down: the port that it arrives at, at which take there, counted from 1,
-- where it comes from, its bytes, and whether it is the end of the application there
pub record ArrivalModel : Type 0 where
  pub port : Port
  pub at_take : ℕ
  pub from : Place
  pub bytes : List ℕ
  pub ends : Bool

-- what was laid down: what arrives, and the numbers of the takes and of the gives that fail,
-- counted from 1 over all ports
pub record LaidDown : Type 0 where
  pub arrivals : List ArrivalModel
  pub failing_takes : List ℕ
  pub failing_gives : List ℕ

-- a wire in memory: what was laid down, and its takes, gives and rests within its rooms; whether
-- it reports takes and gives. Then how often it failed, the latest give that it refused, and how
-- many more takes, gives, bytes of gives and rests have room
pub record MemoryWireState : Type 0 where
  pub laid_down : LaidDown
  pub takings : List Taking
  pub gives : List Give
  pub rests : List Rest
  pub tells : Bool
  pub failures : ℕ
  pub refusal : Option GiveRefusal
  pub take_room : ℕ
  pub give_room : ℕ
  pub byte_room : ℕ
  pub rest_room : ℕ

abbrev pub nothing_laid_down : LaidDown
nothing_laid_down = record { arrivals = []; failing_takes = []; failing_gives = [] }

-- one more thing is laid down: a datagram, a take that fails, or a give that fails
abbrev pub with_arrival : MemoryWireState → ArrivalModel → MemoryWireState
with_arrival wire arrival = record wire {
  laid_down = record wire.laid_down { arrivals = wire.laid_down.arrivals ++ arrival ∷ [] };
}

abbrev pub with_failing_take : MemoryWireState → ℕ → MemoryWireState
with_failing_take wire number = record wire {
  laid_down =
      record wire.laid_down { failing_takes = wire.laid_down.failing_takes ++ number ∷ [] };
}

abbrev pub with_failing_give : MemoryWireState → ℕ → MemoryWireState
with_failing_give wire number = record wire {
  laid_down =
      record wire.laid_down { failing_gives = wire.laid_down.failing_gives ++ number ∷ [] };
}

-- a list, where it is reported
abbrev pub told : {X : Type 0} → Bool → List X → Option (List X)
told tells xs = if tells then Some xs else None

-- whether the call of that number is among those that fail
unfoldable pub is_failing : List ℕ → ℕ → Bool
is_failing numbers number = list_any (λ n. n == number) numbers

-- how many of these takes were at a port
unfoldable pub takes_at : Port → List Taking → ℕ
takes_at port takings = count_by (λ taking. is_port taking.port port) takings

-- a datagram arrives at that take at a port
abbrev pub arrives_at : Port → ℕ → ArrivalModel → Bool
arrives_at port number arrival = is_port arrival.port port && arrival.at_take == number

-- what arrives, cut to a room of that many bytes
abbrev pub cut_to : ℕ → Option ArrivalModel → Arrived
cut_to room None = Nothing
cut_to room (Some arrival) = Came arrival.from (take room arrival.bytes)

-- what a take at a port that isn't to fail gives: what was laid down for it, the first of several
unfoldable pub arrival_for : List ArrivalModel → Port → ℕ → ℕ → Arrived
arrival_for arrivals port number room = cut_to room (find (arrives_at port number) arrivals)

-- whether what was laid down for that take is the end of an application
abbrev pub is_end_if : Option ArrivalModel → Bool
is_end_if None = false
is_end_if (Some arrival) = arrival.ends

unfoldable pub ends_at : List ArrivalModel → Port → ℕ → Bool
ends_at arrivals port number = is_end_if (find (arrives_at port number) arrivals)

-- whether the next take fails: it is beyond the wire's room, or was laid down to fail
unfoldable pub next_take_fails : MemoryWireState → Bool
next_take_fails wire = wire.take_room == 0
    || is_failing wire.laid_down.failing_takes (length wire.takings + 1)

-- what the next take at a port answers, into a room of that many bytes
unfoldable pub next_arrival : MemoryWireState → Port → ℕ → Arrived
next_arrival wire port room =
    if next_take_fails wire then failure_after wire.failures
    else arrival_for wire.laid_down.arrivals port (takes_at port wire.takings + 1) room

-- whether that is the end of an application
unfoldable pub next_ends : MemoryWireState → Port → Bool
next_ends wire port =
    if next_take_fails wire then false
    else ends_at wire.laid_down.arrivals port (takes_at port wire.takings + 1)

-- a room that a take has put this into
unfoldable pub room_after : Arrived → List ℕ → List ℕ
room_after Failed room = room
room_after Nothing room = room
room_after (Came from bytes) room = bytes ++ drop (length bytes) room

-- whether the next give, of that many bytes, is beyond the wire's rooms
unfoldable pub is_give_beyond : MemoryWireState → ℕ → Bool
is_give_beyond wire bytes = wire.give_room == 0 || nat_lt wire.byte_room bytes

-- whether the next give, of that many bytes, fails: it is beyond the wire's rooms, or was laid
-- down to fail; unless the count of failures is at its last value
unfoldable pub next_give_fails : MemoryWireState → ℕ → Bool
next_give_fails wire bytes = nat_lt wire.failures (2 ^ 64 - 1)
    && (is_give_beyond wire bytes
    || is_failing wire.laid_down.failing_gives (length wire.gives + 1))

-- a wire after a take; beyond its room it isn't remembered, and the wire reports nothing from then
-- on
unfoldable pub after_take : MemoryWireState → Taking → MemoryWireState
after_take wire taking = if wire.take_room == 0
    then record wire {
      tells = false;
      failures = one_more_if (has_failed taking.arrived) wire.failures;
    }
    else record wire {
      takings = wire.takings ++ taking ∷ [];
      failures = one_more_if (has_failed taking.arrived) wire.failures;
      take_room = wire.take_room - 1;
    }

-- why a wire and sockets in memory refuse a give: as if no way led to its network, which is the
-- system's error 101
abbrev pub no_way : SocketFault
no_way = record { code = Some (pos 101) }

-- the fault of a give that is refused so, or not
abbrev pub no_way_if : Bool → Option SocketFault
no_way_if refused = if refused then Some no_way else None

-- the latest refusal of a wire after a give: this one, if it failed
abbrev pub refusal_behind : MemoryWireState → Give → Option GiveRefusal
refusal_behind wire give =
    refusal_after give.offer.port give.offer.to (no_way_if give.failed) wire.refusal

-- a wire after a give; beyond its rooms it isn't remembered, and the wire reports nothing from
-- then on
unfoldable pub after_give : MemoryWireState → Give → MemoryWireState
after_give wire give = if is_give_beyond wire (length give.offer.bytes)
    then record wire {
      tells = false;
      failures = one_more_if give.failed wire.failures;
      refusal = refusal_behind wire give;
    }
    else record wire {
      gives = wire.gives ++ give ∷ [];
      failures = one_more_if give.failed wire.failures;
      refusal = refusal_behind wire give;
      give_room = wire.give_room - 1;
      byte_room = wire.byte_room - length give.offer.bytes;
    }

-- a rest that a wire is asked for now
abbrev pub asked_rest : MemoryWireState → ℕ → Rest
asked_rest wire most = record { takes = length wire.takings; most = most }

-- a wire after a rest; beyond its room it isn't remembered
unfoldable pub after_rest : MemoryWireState → Rest → MemoryWireState
after_rest wire rest = if wire.rest_room == 0 then wire
    else record wire { rests = wire.rests ++ rest ∷ []; rest_room = wire.rest_room - 1 }
