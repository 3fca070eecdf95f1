-- What becomes of the connections at a path.
use Rattle.std.specs.Prelude.{◌≡◌, ℕ, ◌<◌, ◌≤◌, ◌≢◌, ◌++◌, ◌⊎◌, true, false, List, ◌∷◌, length}
use Rattle.std.specs.Prelude.{Some, None}
use Rattle.trdp_lines.specs.declared.rule.Rule.{Rule}
use Rattle.trdp_lines.specs.declared.rule.Rule.TheVariants.{Application, Operators}
use Rattle.trdp_lines.specs.Closings.{FoundNothing, HasLeft, IsThere, IsUnheard}
use Rattle.trdp_lines.specs.Comings.{WasRefused}
use Rattle.trdp_lines.specs.Connections.{ConnectionCall, Closes}
use Rattle.trdp_lines.specs.Conversations.{ConversationState}
use Rattle.trdp_lines.specs.Lines.{IsUnended}
use Rattle.trdp_lines.specs.Said.{bytes_from, connections_in, lives}
use Rattle.trdp_lines.specs.Seats.{has_seat, seat_at}

-- The connection of this number had said no line, and was closed where a later one was there. A
-- read had just found no byte of it, and nothing was read from it after that.
pub record GaveWay (n : ℕ) (calls : List ConnectionCall) : Type 0 where
  pub before : List ConnectionCall
  pub behind : List ConnectionCall
  pub silent : IsUnended (bytes_from n before)
  pub asked : FoundNothing n before
  pub successor : ℕ
  pub later : n < successor
  pub there : IsThere successor before
  pub told : calls ≡ before ++ Closes n ∷ behind
  pub unread : IsUnheard before calls n

-- An application is there that came before the connection of this number, and lives: a read has
-- just found that it goes on.
pub record IsBesideLiving (n : ℕ) (calls : List ConnectionCall) : Type 0 where
  pub speaker : ℕ
  pub earlier : speaker < n
  pub living : lives calls speaker ≡ true
  pub there : IsThere speaker calls
  pub asked : FoundNothing speaker calls

-- the connection of this number was refused, beside an application that lived
pub record GotBusy (n : ℕ) (calls : List ConnectionCall) : Type 0 where
  pub refused : WasRefused n calls
  pub beside : IsBesideLiving n refused.before

-- A connection that had a place was closed: once it was over; or, if it was that of an application,
-- to give way to a later one, or because another one lived.
abbrev pub HasGone : Rule → ℕ → List ConnectionCall → Type 0
HasGone Application n calls = HasLeft n calls ⊎ (GaveWay n calls ⊎ GotBusy n calls)
HasGone Operators n calls = HasLeft n calls

-- each of these seats is that of a connection
abbrev pub AreTaken : List ConversationState → Type 0
AreTaken seats = (place : ℕ) → place < length seats → (seat_at seats place).number ≢ None

-- an operator that came when the seats were these was refused, because each was that of another one
abbrev pub WasTurnedAway : Rule → List ConversationState → ℕ → List ConnectionCall → Type 0
WasTurnedAway Application seats n calls = ⊥
WasTurnedAway Operators seats n calls = AreTaken seats × WasRefused n calls

-- the connection of this number has a place, or was closed
abbrev pub IsServed : Rule → ℕ → List ConnectionCall → List ConversationState → Type 0
IsServed rule n calls places = (has_seat n places ≡ true) ⊎ HasGone rule n calls

-- each connection that had a place is served, and each that came since
pub record Serves (rule : Rule) (calls : List ConnectionCall) (seats : List ConversationState)
    (places places_then : List ConversationState) (came came_then : ℕ) : Type 0 where
  pub placed : (n : ℕ) → has_seat n places ≡ true → IsServed rule n calls places_then
  pub next : (n : ℕ) → came < n → n ≤ came_then
      → IsServed rule n calls places_then ⊎ WasTurnedAway rule seats n calls

-- a connection without a place isn't read from between these calls, and gets none
pub record StaysUnseated (calls calls_then : List ConnectionCall)
    (places_then : List ConversationState) (n : ℕ) : Type 0 where
  pub unheard : IsUnheard calls calls_then n
  pub unseated : has_seat n places_then ≡ false

-- between these calls none came, those without a place weren't read from, and one that has a place
-- no longer was closed
pub record GoesOn (rule : Rule) (calls calls_then : List ConnectionCall)
    (places places_then : List ConversationState) : Type 0 where
  pub more : List ConnectionCall
  pub told : calls_then ≡ calls ++ more
  pub come : connections_in calls_then ≡ connections_in calls
  pub others : (n : ℕ) → has_seat n places ≡ false → StaysUnseated calls calls_then places_then n
  pub gone : (n : ℕ) → has_seat n places ≡ true → has_seat n places_then ≡ false
      → HasGone rule n calls_then

-- each seat that is taken is what it was
abbrev pub KeepTaken : (seats seats_then : List ConversationState) → Type 0
KeepTaken seats seats_then = (place n : ℕ) → (seat_at seats place).number ≡ Some n
    → seat_at seats_then place ≡ seat_at seats place
