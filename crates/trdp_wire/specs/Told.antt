-- What a wire reports of its takes and gives, and a clock of its readings.
use Rattle.std.specs.Prelude.{ℕ, List, length, take, Option, Some, None, Result, Ok}
use Rattle.std.specs.Prelude.{Err}
use Rattle.std.specs.Prelude.{Bool, true, false, is_err}
use Rattle.trdp_base.specs.declared.place.Place.{Place}
use Rattle.trdp_wire.specs.declared.port.Port.{Port}
use Rattle.trdp_wire.specs.declared.fault.WireFault.{WireFault}

-- what a take answered: a fault, that no datagram was there, or where one came from and its bytes
pub data Arrived : Type 0 where
  Failed : Arrived
  Nothing : Arrived
  Came : (from : Place) (bytes : List ℕ) → Arrived

-- a datagram came
abbrev pub has_come : Arrived → Bool
has_come Failed = false
has_come Nothing = false
has_come (Came from bytes) = true

-- the wire failed
abbrev pub has_failed : Arrived → Bool
has_failed Failed = true
has_failed Nothing = false
has_failed (Came from bytes) = false

-- one take at a port: how many bytes it had room for, what it answered, and whether that is the
-- end of the application at the place where it came from
pub record Taking : Type 0 where
  pub port : Port
  pub room : ℕ
  pub arrived : Arrived
  pub ended : Bool

-- a datagram that is offered to the wire: the port that it leaves from, where it goes, its bytes
pub record Offer : Type 0 where
  pub port : Port
  pub to : Place
  pub bytes : List ℕ

-- one give, and whether the wire failed at it
pub record Give : Type 0 where
  pub offer : Offer
  pub failed : Bool

-- what a take found, which has put the bytes at the front of the room; and what it answered
abbrev pub arrival_in : Option (Place × ℕ) → List ℕ → Arrived
arrival_in None room = Nothing
arrival_in (Some found) room = Came found.0 (take found.1 room)

abbrev pub arrived_in : {E : Type 0} → Result (Option (Place × ℕ)) E → List ℕ → Arrived
arrived_in (Err fault) room = Failed
arrived_in (Ok found) room = arrival_in found room

-- a place of no application that has ended, whichever it is
abbrev pub nowhere : Place → Bool
nowhere = λ place. false

-- whether what a take answered came from a place whose application had ended by then
abbrev pub stands_for_end : (has_ended : Place → Bool) → Arrived → Bool
stands_for_end has_ended Failed = false
stands_for_end has_ended Nothing = false
stands_for_end has_ended (Came from bytes) = has_ended from

-- a take where the applications at these places had ended by then
abbrev pub taking_at : Port → ℕ → (has_ended : Place → Bool) → Arrived → Taking
taking_at port room has_ended arrived = record {
  port = port;
  room = room;
  arrived = arrived;
  ended = stands_for_end has_ended arrived;
}

abbrev pub taking_of : Port → (has_ended : Place → Bool)
    → Result (Option (Place × ℕ)) WireFault → List ℕ → Taking
taking_of port has_ended result room =
    taking_at port (length room) has_ended (arrived_in result room)

abbrev pub offer_to : Port → Place → List ℕ → Offer
offer_to port to bytes = record { port = port; to = to; bytes = bytes }

abbrev pub give_of : Port → Place → List ℕ → Result (Unit {0}) WireFault → Give
give_of port to bytes result =
    record { offer = offer_to port to bytes; failed = is_err result }
