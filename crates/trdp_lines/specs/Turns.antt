-- What one connection is asked in its turn.
use Rattle.std.specs.Prelude.{◌≡◌, ℕ, ◌<◌, ◌≢◌, ◌++◌, false, length, List, [], ◌∷◌, Option}
use Rattle.std.specs.Prelude.{codes}
use Rattle.trdp_lines.specs.Closings.{IsUnheard, was_closed}
use Rattle.trdp_lines.specs.Connections.{Between, ConnectionCall, Writing, Writes, Closes}
use Rattle.trdp_base.specs.Reported.{TellsMore}
use Rattle.trdp_lines.specs.Conversations.{ConversationState}
use Rattle.trdp_lines.specs.Lines.{lines_in}
use Rattle.trdp_lines.specs.Paths.{IsWhatWasRead}
use Rattle.trdp_lines.specs.Said.{connections_in}
use Rattle.trdp_lines.specs.Seats.{seat_at}

-- what a seat knows of its connection stays true, and these more of its lines were handed in
pub record StaysHeard (n : ℕ) (calls calls_then : List ConnectionCall)
    (old new : ConversationState) (lines : List (List ℕ)) (was : IsWhatWasRead calls n old)
    : Type 0 where
  pub heard : IsWhatWasRead calls_then n new
  pub more : lines_in heard.before ≡ lines_in was.before ++ lines

-- between these calls none came, none was closed, the connection of this number alone was read
-- from, and these lines of it were handed in
pub record HasTurn (n : ℕ) (calls calls_then : List ConnectionCall)
    (old new : ConversationState) (lines : List (List ℕ)) : Type 0 where
  pub more : List ConnectionCall
  pub told : calls_then ≡ calls ++ more
  pub come : connections_in calls_then ≡ connections_in calls
  pub unclosed : (k : ℕ) → was_closed k more ≡ false
  pub others : (k : ℕ) → k ≢ n → IsUnheard calls calls_then k
  pub own : (was : IsWhatWasRead calls n old) → StaysHeard n calls calls_then old new lines was

-- the same of calls that may not be reported
abbrev pub HasTurnIfTold : (n : ℕ) → (calls calls_then : Option (List ConnectionCall))
    → (old new : ConversationState) → (lines : List (List ℕ)) → Type 0
HasTurnIfTold n calls calls_then old new lines =
    Between (λ told told_then. HasTurn n told told_then old new lines) calls calls_then

-- all seats but the one at this place are what they were
abbrev pub KeepsOthers : ℕ → (seats seats_then : List ConversationState) → Type 0
KeepsOthers place seats seats_then =
    (k : ℕ) → k ≢ place → seat_at seats_then k ≡ seat_at seats k

-- the line `busy` is written to the connection of this number once, and it is closed
pub record IsRefused (n : ℕ) (calls calls_then : Option (List ConnectionCall)) : Type 0 where
  pub writing : Writing
  pub busy : writing.bytes ≡ codes "busy\n"
  pub told : TellsMore calls calls_then (Writes n writing ∷ Closes n ∷ [])

-- a place of a seat of this connection, or of a free one
pub record IsPlaceOf (whose : Option ℕ) (seats : List ConversationState) (place : ℕ)
    : Type 0 where
  pub within : place < length seats
  pub number : (seat_at seats place).number ≡ whose

-- none of these seats is of this connection, or free
abbrev pub HasNoPlace : Option ℕ → List ConversationState → Type 0
HasNoPlace whose seats =
    (k : ℕ) → k < length seats → (seat_at seats k).number ≢ whose
