-- What is known of the connections at a path, one of which speaks.
use Rattle.std.specs.Prelude.{◌≡◌, ℕ, ◌+◌, ◌<◌, ◌≤◌, ◌==◌, ◌++◌, Bool, true, false}
use Rattle.std.specs.Prelude.{List, [], ◌∷◌, length, take, Option, Some, None}
use Rattle.std.specs.Prelude.{All}
use Rattle.trdp_lines.specs.Connections.{ConnectionCall, IfTold}
use Rattle.trdp_lines.specs.Conversations.{ConversationState}
use Rattle.trdp_lines.specs.Intakes.{intake_room}
use Rattle.trdp_lines.specs.Lines.{has_line, rest_of}
use Rattle.trdp_lines.specs.Said.{bytes_from, connections_in, connection_ended, lives, reset_line}

-- the last number that a connection may have
abbrev pub last_connection_number : ℕ
last_connection_number = 281474976710655

-- from this number on no connection was read from
abbrev pub IsUnreadFrom : ℕ → List ConnectionCall → Type 0
IsUnreadFrom bound calls = (n : ℕ) → bound ≤ n
    → (bytes_from n calls ≡ []) × (connection_ended n calls ≡ false)

-- the bytes of a connection are whole lines that were handed in, and after them those that are
-- left; it has spoken if there were such lines, and what is known of its end is what was reported
pub record IsWhatWasRead (calls : List ConnectionCall) (n : ℕ)
    (c : ConversationState) : Type 0 where
  pub before : List ℕ
  pub bytes : bytes_from n calls ≡ before ++ c.bytes
  pub whole : rest_of before ≡ []
  pub spoke : has_line before ≡ c.spoke
  pub ended : connection_ended n calls ≡ c.ended

-- none of these connections is an application that lives
abbrev pub ArePast : List ConnectionCall → List ℕ → Type 0
ArePast calls ns = All (λ n. lives calls n ≡ false) ns

-- this one speaks: those that came before it have lower numbers and don't live, those after it
-- have higher ones, and from these nothing was read
pub record IsSpeaker (calls : List ConnectionCall) (n : ℕ) (c : ConversationState) (came : ℕ)
    : Type 0 where
  pub earlier : List ℕ
  pub later : List ℕ
  pub connections : connections_in calls ≡ earlier ++ n ∷ later
  pub earlier_below : All (λ m. m < n) earlier
  pub earlier_past : ArePast calls earlier
  pub later_above : All (λ m. n < m) later
  pub unread : IsUnreadFrom (n + 1) calls
  pub heard : IsWhatWasRead calls n c
  pub within : n ≤ came

-- this one came last, after the one that speaks
pub record CameLast (calls : List ConnectionCall) (n next came : ℕ) : Type 0 where
  pub earlier : List ℕ
  pub connections : connections_in calls ≡ earlier ++ next ∷ []
  pub earlier_below : All (λ m. m < next) earlier
  pub behind : n < next
  pub within : next ≤ came

-- no connection that came has a number beyond this
abbrev pub HaveCome : ℕ → List ConnectionCall → Type 0
HaveCome came calls = All (λ m. m ≤ came) (connections_in calls)

-- what is known of a path's connections is what these calls reported
abbrev pub IsTrueOf : List ConnectionCall → Option ℕ → ConversationState → (waiting : Option ℕ)
    → (came : ℕ) → Type 0
IsTrueOf calls None c None came =
    HaveCome came calls × IsUnreadFrom (came + 1) calls × ArePast calls (connections_in calls)
IsTrueOf calls None c (Some next) came = ⊥
IsTrueOf calls (Some n) c None came = HaveCome came calls × IsSpeaker calls n c came
IsTrueOf calls (Some n) c (Some next) came =
    HaveCome came calls × IsSpeaker calls n c came × CameLast calls n next came

-- the same of calls that may not be reported
abbrev pub IsTrueIfTold : Option (List ConnectionCall) → ConversationState → Option ℕ → ℕ
    → Type 0
IsTrueIfTold calls c waiting came = IfTold (λ told. IsTrueOf told c.number c waiting came) calls

-- a connection that can be read from: it goes on, no whole line of it is left, and there is room
pub record IsReady (c : ConversationState) : Type 0 where
  pub going : c.ended ≡ false
  pub unended : has_line c.bytes ≡ false
  pub spare : length c.bytes < intake_room

-- the same of the one that speaks, if one does
abbrev pub IsReadyIf : Option ℕ → ConversationState → Type 0
IsReadyIf None c = Unit {0}
IsReadyIf (Some n) c = IsReady c

-- the end of a connection was handed in, cut to the room, if it has spoken
abbrev pub HandsEnd : ℕ → (spoke : Bool) → (room : ℕ) → Option (ℕ × ℕ) → (room_then : List ℕ)
    → Type 0
HandsEnd n spoke room None room_then = spoke ≡ false
HandsEnd n spoke room (Some found) room_then =
    (spoke ≡ true) × (found.0 ≡ n) × (take found.1 room_then ≡ take room reset_line)

-- this number is that of the one that speaks
abbrev pub speaks : Option ℕ → ℕ → Bool
speaks None n = false
speaks (Some m) n = m == n
