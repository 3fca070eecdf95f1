-- What a path does by some of its calls, by which no connection comes, and what it hands in.
use Rattle.std.specs.Prelude.{◌≡◌, ℕ, ◌<◌, ◌≤◌, ◌||◌, ◌&&◌, Bool, true, false, List, [], ◌∷◌}
use Rattle.std.specs.Prelude.{length, take, Option, Some, None, Result, is_ok}
use Rattle.std.specs.Prelude.{slice_set}
use Rattle.trdp_lines.specs.declared.path_fault.LostText.{LostText}
use Rattle.trdp_lines.specs.declared.rule.Rule.{Rule}
use Rattle.trdp_base.specs.Reported.{TellsMore}
use Rattle.trdp_lines.specs.Connections.{Between, ConnectionCall, IfTold}
use Rattle.trdp_lines.specs.Conversations.{ConversationState, HasWritten, is_done}
use Rattle.trdp_lines.specs.Fates.{GoesOn, Serves}
use Rattle.trdp_lines.specs.Hearings.{has_brought}
use Rattle.trdp_lines.specs.Outgoings.{lost_told, takes_text}
use Rattle.trdp_lines.specs.Said.{Said, end_if, reset_line}
use Rattle.trdp_lines.specs.Seats.{HandsInTexts, NothingLeft, PathState, counts_ends, has_seat}
use Rattle.trdp_lines.specs.Seats.{places_of, seat_at}

-- a take handed in the next text, cut to the room
pub record HandsInText {C : Type 0} (rule : Rule) (calls_of : C → Option (List ConnectionCall))
    (path path_then : PathState C) (room : ℕ) (found : ℕ × ℕ) (room_then : List ℕ)
    : Type 0 where
  pub text : List ℕ
  pub handed_in : HandsInTexts rule (calls_of path.connections) (calls_of path_then.connections)
      path.seats path_then.seats ((found.0, text) ∷ [])
  pub bytes : take found.1 room_then ≡ take room text

-- a take handed in the next text, or found none, and none is left
abbrev pub HandsInNext : {C : Type 0} → Rule → (calls_of : C → Option (List ConnectionCall))
    → (path path_then : PathState C) → (room : ℕ) → Option (ℕ × ℕ) → (room_then : List ℕ) → Type 0
HandsInNext rule calls_of path path_then room None room_then =
    HandsInTexts rule (calls_of path.connections) (calls_of path_then.connections) path.seats
    path_then.seats [] × NothingLeft rule path_then.seats
HandsInNext rule calls_of path path_then room (Some found) room_then =
    HandsInText rule calls_of path path_then room found room_then

-- each connection that had a place is served, and each that came since
abbrev pub AreServed : {C : Type 0} → Rule → (calls_of : C → Option (List ConnectionCall))
    → (path path_then : PathState C) → Type 0
AreServed rule calls_of path path_then = IfTold (λ calls. Serves rule calls path.seats
    (places_of path) (places_of path_then) path.came path_then.came)
    (calls_of path_then.connections)

-- a text was said to the connection of this number: its seat is changed by that, and no other
pub record SaysAt (calls calls_then : Option (List ConnectionCall)) (n : ℕ) (text : List ℕ)
    (seats seats_then : List ConversationState) (result : Result (Unit {0}) LostText)
    : Type 0 where
  pub place : ℕ
  pub within : place < length seats
  pub number : (seat_at seats place).number ≡ Some n
  pub seat : ConversationState
  pub changed : seats_then ≡ slice_set seats place seat
  pub written : HasWritten n (text ∷ []) (seat_at seats place) seat calls calls_then
  pub answer : is_ok result ≡ takes_text (lost_told (seat_at seats place).outgoing) text

-- a text is said to the connection of this number, if it has a seat; nothing is said to any other
abbrev pub SaysToSeat : (calls calls_then : Option (List ConnectionCall)) → Bool → ℕ
    → (text : List ℕ) → (seats seats_then : List ConversationState)
    → Result (Unit {0}) LostText → Type 0
SaysToSeat calls calls_then true n text seats seats_then result =
    SaysAt calls calls_then n text seats seats_then result
SaysToSeat calls calls_then false n text seats seats_then result =
    TellsMore calls calls_then [] × (seats_then ≡ seats) × (is_ok result ≡ true)

-- Between these states none came, and these texts were handed in. What is heard then was before, or
-- came in between.
pub record Goes {C : Type 0} (rule : Rule) (calls_of : C → Option (List ConnectionCall))
    (path path_then : PathState C) (texts : List Said) : Type 0 where
  pub more : List ConnectionCall
  pub told : TellsMore (calls_of path.connections) (calls_of path_then.connections) more
  pub handed_in : HandsInTexts rule (calls_of path.connections) (calls_of path_then.connections)
      path.seats path_then.seats texts
  pub fates : Between (λ calls calls_then.
      GoesOn rule calls calls_then (places_of path) (places_of path_then))
      (calls_of path.connections) (calls_of path_then.connections)
  pub came : path_then.came ≡ path.came
  pub hears : path_then.heard ≡ (path.heard || has_brought more)

-- the same, and a text was found, cut to the room: a line of one that has a seat, or the end of one
pub record Finds {C : Type 0} (rule : Rule) (calls_of : C → Option (List ConnectionCall))
    (path path_then : PathState C) (room : ℕ) (found : ℕ × ℕ) (room_then : List ℕ)
    : Type 0 where
  pub text : List ℕ
  pub goes : Goes rule calls_of path path_then ((found.0, text) ∷ [])
  pub bytes : take found.1 room_then ≡ take room text
  pub gone : has_seat found.0 path_then.seats ≡ false
      → take found.1 room_then ≡ take room reset_line
  pub low : found.0 ≤ path_then.came

-- the same, or none was found
abbrev pub FindsIf : {C : Type 0} → Rule → (calls_of : C → Option (List ConnectionCall))
    → (path path_then : PathState C) → (room : ℕ) → Option (ℕ × ℕ) → (room_then : List ℕ) → Type 0
FindsIf rule calls_of path path_then room None room_then = Goes rule calls_of path path_then []
FindsIf rule calls_of path path_then room (Some found) room_then =
    Finds rule calls_of path path_then room found room_then

-- the text for the end of the connection at a seat, where ends count
abbrev pub end_at : Rule → ℕ → ConversationState → List Said
end_at rule n c = end_if n (is_done c) (counts_ends rule && c.spoke)
