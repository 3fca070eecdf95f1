-- The seats of a path, and what is left to hand in there by its rule.
use Rattle.std.specs.Prelude.{◌≡◌, ℕ, ◌+◌, ◌==◌, ◌++◌, Bool, true, false, if◌then◌else◌}
use Rattle.std.specs.Prelude.{List, [], ◌∷◌, replicate, slice_index_or, Option, None, Some}
use Rattle.std.specs.List.{flat_map, filter, list_any}
use Rattle.trdp_lines.specs.declared.rule.Rule.{Rule}
use Rattle.trdp_lines.specs.declared.rule.Rule.TheVariants.{Application, Operators}
use Rattle.trdp_lines.specs.Connections.{ConnectionCall}
use Rattle.trdp_lines.specs.Conversations.{ConversationState, conversation_of, left_to_hand_in}
use Rattle.trdp_lines.specs.Conversations.{lines_left_by}
use Rattle.trdp_lines.specs.Paths.{speaks}
use Rattle.trdp_lines.specs.Said.{Said, HandsIn, applications_say, lines_of}

-- how many connections have a seat at once, at most
abbrev pub seats_at : Rule → ℕ
seats_at Application = 1
seats_at Operators = 4

-- the end of a connection that has spoken is handed in
abbrev pub counts_ends : Rule → Bool
counts_ends Application = true
counts_ends Operators = false

-- The connections of a path; its seats, each of a connection or free; the one that waits for a seat,
-- unread until it is known whether the one that has it lives; and how many came. `next` is how many
-- seats come before the first that the next take asks, and `heard` whether something was heard at
-- the takes since that was asked the last time.
pub record PathState (C : Type 0) : Type 0 where
  pub connections : C
  pub seats : List ConversationState
  pub waiting : Option ℕ
  pub came : ℕ
  pub next : ℕ
  pub heard : Bool

-- a seat of no connection
abbrev pub free_seat : ConversationState
free_seat = conversation_of None

-- the connections of a path, none of which came yet, and where nothing was heard
abbrev pub new_path : {C : Type 0} → Rule → C → PathState C
new_path rule connections = record {
  connections = connections;
  seats = replicate (seats_at rule) free_seat;
  waiting = None;
  came = 0;
  next = 0;
  heard = false;
}

-- the seat at a place
abbrev pub seat_at : List ConversationState → ℕ → ConversationState
seat_at seats place = slice_index_or seats place free_seat

-- a seat is that of the connection of this number
abbrev pub is_of : ℕ → ConversationState → Bool
is_of n c = speaks c.number n

-- the connection of this number has one of these seats
abbrev pub has_seat : ℕ → List ConversationState → Bool
has_seat n seats = list_any (is_of n) seats

-- the seats, and the place of the one that waits
abbrev pub with_waiting : List ConversationState → Option ℕ → List ConversationState
with_waiting seats waiting = seats ++ conversation_of waiting ∷ []

-- those of a path
abbrev pub places_of : {C : Type 0} → PathState C → List ConversationState
places_of path = with_waiting path.seats path.waiting

-- the connection of this number has a seat, or waits
abbrev pub is_seated : {C : Type 0} → ℕ → PathState C → Bool
is_seated n path = has_seat n (places_of path)

-- what this seat has left to hand in, if it is that of the connection of this number
abbrev pub left_at_seat : ℕ → ConversationState → List Said
left_at_seat n c = if is_of n c then lines_left_by (Some n) c else []

-- the lines that are left to hand in of the connection of this number
abbrev pub left_in : ℕ → List ConversationState → List Said
left_in n seats = flat_map (left_at_seat n) seats

-- What is said at a path, in order: what applications say, one after another, with their ends; or
-- the lines of an operator, which is the connection of this number.
abbrev pub says_at : Rule → ℕ → List ConnectionCall → List Said
says_at Application n calls = applications_say calls
says_at Operators n calls = lines_of calls n

-- what of that is left to hand in
abbrev pub left_at_path : Rule → ℕ → List ConversationState → List Said
left_at_path Application n seats = left_to_hand_in (seat_at seats 0)
left_at_path Operators n seats = left_in n seats

-- those of these texts that are of that
abbrev pub texts_at : Rule → ℕ → List Said → List Said
texts_at Application n texts = texts
texts_at Operators n texts = filter (λ text. text.0 == n) texts

-- nothing is left to hand in
abbrev pub NothingLeft : Rule → List ConversationState → Type 0
NothingLeft rule seats = (n : ℕ) → left_at_path rule n seats ≡ []

-- what is left to hand in stays
abbrev pub StaysLeft : Rule → (seats seats_then : List ConversationState) → Type 0
StaysLeft rule seats seats_then = (n : ℕ)
    → left_at_path rule n seats_then ≡ left_at_path rule n seats

-- Between these calls these texts were handed in: they come next of all that is said, and after
-- them what is left to hand in then.
abbrev pub HandsInTexts : Rule → (calls calls_then : Option (List ConnectionCall))
    → (seats seats_then : List ConversationState) → List Said → Type 0
HandsInTexts rule calls calls_then seats seats_then texts = (n : ℕ)
    → HandsIn (says_at rule n) calls calls_then (left_at_path rule n seats)
    (left_at_path rule n seats_then)
    (texts_at rule n texts)

-- how many of these seats are those of the connection of this number
abbrev pub seats_of : ℕ → List ConversationState → ℕ
seats_of n [] = 0
seats_of n (c ∷ seats) = (if is_of n c then 1 else 0) + seats_of n seats
