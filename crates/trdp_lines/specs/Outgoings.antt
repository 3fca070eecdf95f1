-- What waits to go out, and how many texts found no room.
use Rattle.std.specs.Prelude.{ℕ, ◌≤◌, ◌+◌, ◌-◌, ◌^◌, ◌==◌, ◌&&◌, ◌++◌, List, [], length}
use Rattle.std.specs.Prelude.{nat_lt, nat_le, Bool, if◌then◌else◌, codes, min}
use Rattle.trdp_base.specs.Limits.{line_limit}
use Rattle.trdp_base.specs.NumberText.{text_of_number}

-- the bytes that the other side hasn't taken, and how many texts were dropped since the latest
-- line that reported such
pub record OutgoingState : Type 0 where
  pub waiting : List ℕ
  pub lost : ℕ

-- nothing waits, and nothing was dropped
abbrev pub no_outgoing : OutgoingState
no_outgoing = record { waiting = []; lost = 0 }

-- room for what the other side hasn't taken, in bytes: for the longest line
abbrev pub outgoing_room : ℕ
outgoing_room = line_limit

-- what waits is within its room, which is reserved; so is that for the line of what was dropped
pub record HasRooms (waiting : List ℕ) (capacity line_capacity : ℕ) : Type 0 where
  pub within : length waiting ≤ outgoing_room
  pub reserved : outgoing_room ≤ capacity
  pub line_reserved : 26 ≤ line_capacity

-- the most texts that are counted as dropped
abbrev pub lost_limit : ℕ
lost_limit = 2 ^ 64 - 1

-- the line that says how many texts were dropped
unfoldable pub lost_line : ℕ → List ℕ
lost_line lost = codes "lost " ++ text_of_number lost ++ codes "\n"

-- a text finds room after what waits
abbrev pub finds_room : OutgoingState → List ℕ → Bool
finds_room state text = nat_le (length state.waiting + length text) outgoing_room

-- the text follows what waits
abbrev pub with_bytes : OutgoingState → List ℕ → OutgoingState
with_bytes state text = record state { waiting = state.waiting ++ text }

-- texts were dropped, and the line that says how many finds room
abbrev pub can_tell : OutgoingState → Bool
can_tell state = nat_lt 0 state.lost && finds_room state (lost_line state.lost)

-- where that line finds room it follows what waits, and the count restarts
unfoldable pub lost_told : OutgoingState → OutgoingState
lost_told state = if can_tell state
    then record { waiting = state.waiting ++ lost_line state.lost; lost = 0 }
    else state

-- no text was dropped that wasn't reported, and the text finds room
abbrev pub takes_text : OutgoingState → List ℕ → Bool
takes_text state text = state.lost == 0 && finds_room state text

-- the text follows what waits, or it is dropped whole
unfoldable pub with_text : OutgoingState → List ℕ → OutgoingState
with_text state text = if takes_text state text
    then with_bytes state text
    else record state { lost = min (state.lost + 1) lost_limit }
