-- In which order the seats of a path are asked.
use Rattle.std.specs.Prelude.{◌≡◌, ℕ, ◌+◌, ◌<◌, ◌≤◌, ◌⊎◌, true, List, Option, Some}
use Rattle.trdp_lines.specs.declared.rule.Rule.{Rule}
use Rattle.trdp_lines.specs.Askings.{HadTurn, IsTurnOf}
use Rattle.trdp_lines.specs.Connections.{ConnectionCall}
use Rattle.trdp_base.specs.Reported.{TellsMore}
use Rattle.trdp_lines.specs.Conversations.{ConversationState}
use Rattle.trdp_lines.specs.Paths.{IsReadyIf}
use Rattle.trdp_lines.specs.Seats.{PathState, has_seat, seat_at, seats_at}

-- in a round of all seats that begins at the first of these places, and after the last seat goes on
-- at the first one, the second of these places comes before the third
abbrev pub ComesBefore : (first k place : ℕ) → Type 0
ComesBefore first k place =
    ((first ≤ k) × (k < place)) ⊎ ((place < first) × ((first ≤ k) ⊎ (k < place)))

-- by these calls each that has one of some seats then had its turn, and nothing of it is left
pub record Passes (places : ℕ → Type 0) (calls calls_then : Option (List ConnectionCall))
    (seats_then : List ConversationState) (waiting : Option ℕ) : Type 0 where
  pub more : List ConnectionCall
  pub told : TellsMore calls calls_then more
  pub reads : (k n : ℕ) → places k → (seat_at seats_then k).number ≡ Some n
      → HadTurn waiting n more
  pub ready : (k : ℕ) → places k → IsReadyIf (seat_at seats_then k).number (seat_at seats_then k)

-- the connection of this number has the seat at this place then, if it has one
abbrev pub IsAtIf : ℕ → ℕ → List ConversationState → Type 0
IsAtIf n place seats_then =
    has_seat n seats_then ≡ true → (seat_at seats_then place).number ≡ Some n

-- A text of the connection of this number was found at one of the seats from one place to another.
-- Those before it there were passed, and the next that is asked is the one after it.
pub record FindsAt (first «end» : ℕ) (calls calls_then : Option (List ConnectionCall))
    (seats seats_then : List ConversationState) (waiting : Option ℕ) (n next : ℕ) : Type 0 where
  pub place : ℕ
  pub low : first ≤ place
  pub high : place < «end»
  pub whose : IsAtIf n place seats_then
  pub passes : Passes (λ k. (first ≤ k) × (k < place)) calls calls_then seats_then waiting
  pub others : (k : ℕ) → ((k < first) ⊎ («end» ≤ k)) → seat_at seats_then k ≡ seat_at seats k
  pub next_is : next ≡ place + 1

-- the same of a round of that many seats
pub record FindsInRound (first most : ℕ) (calls calls_then : Option (List ConnectionCall))
    (seats_then : List ConversationState) (waiting : Option ℕ) (n next : ℕ) : Type 0 where
  pub place : ℕ
  pub within : place < most
  pub whose : IsAtIf n place seats_then
  pub passes : Passes (λ k. (k < most) × ComesBefore first k place) calls calls_then seats_then
      waiting
  pub next_is : next ≡ place + 1

-- A text of the connection of this number was handed in, whose seat was the next in turn of those
-- that had something: of each that comes before it nothing is left, and it was read from. The take
-- after that begins at the seat behind it.
pub record IsInTurn {C : Type 0} (rule : Rule) (calls_of : C → Option (List ConnectionCall))
    (path path_then : PathState C) (n : ℕ) : Type 0 where
  pub place : ℕ
  pub within : place < seats_at rule
  pub whose : IsAtIf n place path_then.seats
  pub more : List ConnectionCall
  pub told : TellsMore (calls_of path.connections) (calls_of path_then.connections) more
  pub reads : (k m : ℕ) → k < seats_at rule → ComesBefore path.next k place
      → (seat_at path_then.seats k).number ≡ Some m → IsTurnOf rule m more
  pub ready : (k : ℕ) → k < seats_at rule → ComesBefore path.next k place
      → IsReadyIf (seat_at path_then.seats k).number (seat_at path_then.seats k)
  pub next_is : path_then.next ≡ place + 1
