-- What holds of the seats of a path at any time.
use Rattle.std.specs.Prelude.{◌≡◌, ℕ, ◌+◌, ◌<◌, ◌≤◌, List, [], ◌∷◌, length, Option, Some, None}
use Rattle.trdp_lines.specs.declared.rule.Rule.{Rule}
use Rattle.trdp_lines.specs.declared.rule.Rule.TheVariants.{Application, Operators}
use Rattle.trdp_lines.specs.Closings.{AreOpenIfTold}
use Rattle.trdp_lines.specs.Connections.{ConnectionCall, IfTold}
use Rattle.trdp_lines.specs.Conversations.{ConversationState}
use Rattle.trdp_lines.specs.Paths.{IsWhatWasRead, IsTrueIfTold, IsUnreadFrom}
use Rattle.trdp_lines.specs.Paths.{last_connection_number}
use Rattle.trdp_lines.specs.Seats.{has_seat, seat_at, seats_at, seats_of, with_waiting}

-- what a seat knows of its connection, if it has one, is what these calls reported
abbrev pub IsHeardIf : List ConnectionCall → Option ℕ → ConversationState → Type 0
IsHeardIf calls None c = Unit {0}
IsHeardIf calls (Some n) c = IsWhatWasRead calls n c

-- the same of each of these seats
abbrev pub AreHeard : List ConnectionCall → List ConversationState → Type 0
AreHeard calls [] = Unit {0}
AreHeard calls (c ∷ seats) = IsHeardIf calls c.number c × AreHeard calls seats

-- each connection has one of these seats at most, and one that didn't come yet has none
pub record AreSeated (seats : List ConversationState) (came : ℕ) : Type 0 where
  pub once : (n : ℕ) → seats_of n seats ≤ 1
  pub below : (n : ℕ) → came < n → seats_of n seats ≡ 0

-- what is known of the connections at these seats is what these calls reported, and nothing was
-- read from those that didn't come yet
pub record AreTrueOf (calls : List ConnectionCall) (seats : List ConversationState) (came : ℕ)
    : Type 0 where
  pub unread : IsUnreadFrom (came + 1) calls
  pub heard : AreHeard calls seats

-- the same of calls that may not be reported
abbrev pub AreTrueIfTold : Option (List ConnectionCall) → List ConversationState → ℕ → Type 0
AreTrueIfTold calls seats came = IfTold (λ told. AreTrueOf told seats came) calls

-- An application is followed by the one that waits, in the order in which they came. No operator
-- waits.
abbrev pub IsInOrder : Rule → Option (List ConnectionCall) → List ConversationState
    → (waiting : Option ℕ) → (came : ℕ) → Type 0
IsInOrder Application calls seats waiting came =
    IsTrueIfTold calls (seat_at seats 0) waiting came
IsInOrder Operators calls seats waiting came = waiting ≡ None

-- what holds of the connections at these seats at any time
pub record ArePlaces (calls : Option (List ConnectionCall)) (seats : List ConversationState)
    (came : ℕ) : Type 0 where
  pub seated : AreSeated seats came
  pub present : AreOpenIfTold calls (λ n. has_seat n seats) came
  pub known : AreTrueIfTold calls seats came

-- what holds of a path at any time
pub record IsPath (rule : Rule) (calls : Option (List ConnectionCall))
    (seats : List ConversationState) (waiting : Option ℕ) (came : ℕ) : Type 0 where
  pub size : length seats ≡ seats_at rule
  pub within : came ≤ last_connection_number
  pub places : ArePlaces calls (with_waiting seats waiting) came
  pub order : IsInOrder rule calls seats waiting came

-- the same, and where its next take begins
pub record IsPathFrom (rule : Rule) (calls : Option (List ConnectionCall))
    (seats : List ConversationState) (waiting : Option ℕ) (came next : ℕ) : Type 0 where
  pub path : IsPath rule calls seats waiting came
  pub first : next ≤ seats_at rule
