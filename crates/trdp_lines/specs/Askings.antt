-- What a take has asked of the connections at a path, and what else if it finds nothing.
use Rattle.std.specs.Prelude.{◌≡◌, ℕ, ◌+◌, ◌<◌, ◌≤◌, ◌==◌, ◌≢◌, ◌⊎◌, Bool, true, false, List, []}
use Rattle.std.specs.Prelude.{Option, Some, None, Result, Ok, Err, is_some}
use Rattle.std.specs.List.{list_any}
use Rattle.trdp_lines.specs.declared.connections.Accepted.{Accepted}
use Rattle.trdp_lines.specs.declared.connections.Accepted.TheVariants.{Came, Nothing, Failed}
use Rattle.trdp_lines.specs.declared.path_fault.AcceptFault.{AcceptFault}
use Rattle.trdp_lines.specs.declared.rule.Rule.{Rule}
use Rattle.trdp_lines.specs.declared.rule.Rule.TheVariants.{Application, Operators}
use Rattle.trdp_lines.specs.Closings.{IsGoing, was_closed}
use Rattle.trdp_lines.specs.Connections.{ConnectionCall, Accepts, Reads, Writes, Closes}
use Rattle.trdp_base.specs.Reported.{TellsMore}
use Rattle.trdp_lines.specs.Conversations.{ConversationState}
use Rattle.trdp_lines.specs.Paths.{IsReadyIf, last_connection_number}
use Rattle.trdp_lines.specs.Seats.{PathState, has_seat, seat_at}

-- a call asks for the next connection, under this number
abbrev pub asks_for : ℕ → ConnectionCall → Bool
asks_for n (Accepts number answer) = number == n
asks_for n (Reads number reading) = false
asks_for n (Writes number writing) = false
asks_for n (Closes number) = false

-- a call reads from the connection of this number
abbrev pub reads_from : ℕ → ConnectionCall → Bool
reads_from n (Accepts number answer) = false
reads_from n (Reads number reading) = number == n
reads_from n (Writes number writing) = false
reads_from n (Closes number) = false

-- a call writes to the connection of this number
abbrev pub writes_to : ℕ → ConnectionCall → Bool
writes_to n (Accepts number answer) = false
writes_to n (Reads number reading) = false
writes_to n (Writes number writing) = number == n
writes_to n (Closes number) = false

-- the system refused the next connection
abbrev pub is_failed : Accepted → Bool
is_failed Came = false
is_failed Nothing = false
is_failed Failed = true

-- a call had this answer
abbrev pub fails : ConnectionCall → Bool
fails (Accepts number answer) = is_failed answer
fails (Reads number reading) = false
fails (Writes number writing) = false
fails (Closes number) = false

-- among these calls one asks for the connection of this number
abbrev pub was_asked_for : ℕ → List ConnectionCall → Bool
was_asked_for n calls = list_any (asks_for n) calls

-- among them is a read from it
abbrev pub was_read : ℕ → List ConnectionCall → Bool
was_read n calls = list_any (reads_from n) calls

-- among them is a write to it
abbrev pub was_written : ℕ → List ConnectionCall → Bool
was_written n calls = list_any (writes_to n) calls

-- among them the system refused the next connection
abbrev pub accept_failed : List ConnectionCall → Bool
accept_failed calls = list_any fails calls

-- where something waits for a connection, it was written to by these calls
abbrev pub IsTried : ConversationState → List ConnectionCall → Type 0
IsTried c calls = (n : ℕ) → c.number ≡ Some n → c.outgoing.waiting ≢ [] → was_written n calls ≡ true

-- between these calls the connection was written to for which this waited
pub record TriesOne (calls calls_then : Option (List ConnectionCall)) (c : ConversationState)
    : Type 0 where
  pub more : List ConnectionCall
  pub told : TellsMore calls calls_then more
  pub tried : IsTried c more

-- the same of all that may have these seats
pub record TriesAll (most : ℕ) (calls calls_then : Option (List ConnectionCall))
    (seats : List ConversationState) : Type 0 where
  pub more : List ConnectionCall
  pub told : TellsMore calls calls_then more
  pub tried : (place : ℕ) → place < most → IsTried (seat_at seats place) more

-- a take found nothing: this holds, of whether it answered that the system refuses a connection
abbrev pub IfNothing : Result (Option (ℕ × ℕ)) AcceptFault → (Bool → Type 0) → Type 0
IfNothing (Ok None) P = P false
IfNothing (Ok (Some found)) P = Unit {0}
IfNothing (Err fault) P = P true

-- by these calls one was read from and closed, and another has its seat
pub record WasReplaced (calls : List ConnectionCall) : Type 0 where
  pub whose : ℕ
  pub read : was_read whose calls ≡ true
  pub closed : was_closed whose calls ≡ true

-- by these calls an operator was read from; an application, or the one in whose place it speaks
abbrev pub IsTurnOf : Rule → ℕ → List ConnectionCall → Type 0
IsTurnOf Application n calls = (was_read n calls ≡ true) ⊎ WasReplaced calls
IsTurnOf Operators n calls = was_read n calls ≡ true

-- another connection may be asked for, where an application is followed by this one, or none
abbrev pub MayCome : Rule → (waiting : Option ℕ) → Type 0
MayCome Application waiting = waiting ≡ None
MayCome Operators waiting = Unit {0}

-- Between these calls the next connection was asked for, if it may come, and unless the last number
-- was given. Each that has a seat then had its turn, and is not over. The system refused a
-- connection, or didn't.
pub record AsksAll {C : Type 0} (rule : Rule) (calls_of : C → Option (List ConnectionCall))
    (path path_then : PathState C) (fault : Bool) : Type 0 where
  pub more : List ConnectionCall
  pub told : TellsMore (calls_of path.connections) (calls_of path_then.connections) more
  pub accepts : MayCome rule path.waiting → path.came < last_connection_number
      → was_asked_for (path.came + 1) more ≡ true
  pub reads : (n : ℕ) → has_seat n path_then.seats ≡ true → IsTurnOf rule n more
  pub going : (n : ℕ) → has_seat n path_then.seats ≡ true
      → IsGoing n (calls_of path_then.connections)
  pub failed : accept_failed more ≡ fault

-- between these calls each that has a seat then was read from
pub record ReadsAll (calls calls_then : Option (List ConnectionCall))
    (seats_then : List ConversationState) : Type 0 where
  pub more : List ConnectionCall
  pub told : TellsMore calls calls_then more
  pub reads : (n : ℕ) → has_seat n seats_then ≡ true → was_read n more ≡ true

-- between these calls the system refused no connection
pub record NoneFails (calls calls_then : Option (List ConnectionCall)) : Type 0 where
  pub more : List ConnectionCall
  pub told : TellsMore calls calls_then more
  pub unfailed : accept_failed more ≡ false

-- the next connection was asked for, if it may be, and refused or not
pub record AsksNext (calls calls_then : Option (List ConnectionCall)) (may : Type 0) (came : ℕ)
    (fault : Bool) : Type 0 where
  pub more : List ConnectionCall
  pub told : TellsMore calls calls_then more
  pub accepts : may → came < last_connection_number → was_asked_for (came + 1) more ≡ true
  pub failed : accept_failed more ≡ fault

-- between these calls the connection of this number was asked for
pub record AsksFor (number : ℕ) (calls calls_then : Option (List ConnectionCall)) : Type 0 where
  pub more : List ConnectionCall
  pub told : TellsMore calls calls_then more
  pub asked : was_asked_for number more ≡ true

-- the connection of this number was read from; or, if one waited, the one in whose place it is
abbrev pub HadTurn : (waiting : Option ℕ) → ℕ → List ConnectionCall → Type 0
HadTurn waiting n calls =
    (was_read n calls ≡ true) ⊎ ((is_some waiting ≡ true) × WasReplaced calls)

-- the seats from one place to another were asked, and no other: each that has one of them then had
-- its turn, and may be read from again
pub record AsksPlaces (first «end» : ℕ) (calls calls_then : Option (List ConnectionCall))
    (seats seats_then : List ConversationState) (waiting : Option ℕ) : Type 0 where
  pub more : List ConnectionCall
  pub told : TellsMore calls calls_then more
  pub reads : (k n : ℕ) → first ≤ k → k < «end» → (seat_at seats_then k).number ≡ Some n
      → HadTurn waiting n more
  pub ready : (k : ℕ) → first ≤ k → k < «end»
      → IsReadyIf (seat_at seats_then k).number (seat_at seats_then k)
  pub others : (k : ℕ) → ((k < first) ⊎ («end» ≤ k)) → seat_at seats_then k ≡ seat_at seats k
  pub unfailed : accept_failed more ≡ false

-- the one that had the seat was closed
pub record WasClosed (whose : Option ℕ) (calls : List ConnectionCall) : Type 0 where
  pub number : ℕ
  pub had : whose ≡ Some number
  pub closed : was_closed number calls ≡ true

-- the one that has the seat then had it before; or, if one waited, has it in the place of one that
-- was closed
pub record TakesSeat (calls calls_then : Option (List ConnectionCall)) (waiting : Option ℕ)
    (whose whose_then : Option ℕ) : Type 0 where
  pub more : List ConnectionCall
  pub told : TellsMore calls calls_then more
  pub follows : (n : ℕ) → whose_then ≡ Some n
      → (whose ≡ Some n) ⊎ ((is_some waiting ≡ true) × WasClosed whose more)
  pub unfailed : accept_failed more ≡ false

-- the one that has the seat then had its turn
pub record Listens (calls calls_then : Option (List ConnectionCall)) (waiting : Option ℕ)
    (whose_then : Option ℕ) : Type 0 where
  pub more : List ConnectionCall
  pub told : TellsMore calls calls_then more
  pub reads : (n : ℕ) → whose_then ≡ Some n → HadTurn waiting n more
  pub unfailed : accept_failed more ≡ false
