-- What is said over the connections at a path: the lines of each, and at a control port its end.
use Rattle.std.specs.Prelude.{◌≡◌, ℕ, ◌==◌, ◌||◌, ◌&&◌, ◌++◌, nat_le, Bool, true, false, not}
use Rattle.std.specs.Prelude.{if◌then◌else◌, List, [], ◌∷◌, length, map, codes, Option, Some, None}
use Rattle.std.specs.List.{flat_map, list_any}
use Rattle.trdp_lines.specs.Connections.{ConnectionCall, Accepts, Reads, Writes, Closes}
use Rattle.trdp_lines.specs.Connections.{ReadAnswer, SomeBytes, NoBytes, NoMore, reading_bytes}
use Rattle.trdp_base.specs.Limits.{line_limit}
use Rattle.trdp_lines.specs.Lines.{has_line, lines_in, rest_of}
use Rattle.trdp_lines.specs.declared.connections.Accepted.{Accepted}
use Rattle.trdp_lines.specs.declared.connections.Accepted.TheVariants.{Came, Nothing, Failed}

-- a text, and the number of the connection that says it
abbrev pub Said : Type 0
Said = ℕ × List ℕ

-- the connection of this number, if the answer says that it came
abbrev pub number_if : ℕ → Accepted → List ℕ
number_if number Came = number ∷ []
number_if number Nothing = []
number_if number Failed = []

-- the connection that came by a call, if one did
abbrev pub accepted_by : ConnectionCall → List ℕ
accepted_by (Accepts number answer) = number_if number answer
accepted_by (Reads number reading) = []
accepted_by (Writes number writing) = []
accepted_by (Closes number) = []

-- the connections that came, in order
abbrev pub connections_in : List ConnectionCall → List ℕ
connections_in calls = flat_map accepted_by calls

-- the bytes that a call read from a connection
abbrev pub bytes_read : ℕ → ConnectionCall → List ℕ
bytes_read n (Accepts number answer) = []
bytes_read n (Reads number reading) = if number == n then reading_bytes reading else []
bytes_read n (Writes number writing) = []
bytes_read n (Closes number) = []

-- all bytes that came from a connection
abbrev pub bytes_from : ℕ → List ConnectionCall → List ℕ
bytes_from n calls = flat_map (bytes_read n) calls

-- a read said that no more come
abbrev pub is_end : ReadAnswer → Bool
is_end (SomeBytes bytes) = false
is_end NoBytes = false
is_end NoMore = true

-- a call said that no more come from a connection
abbrev pub reads_end : ℕ → ConnectionCall → Bool
reads_end n (Accepts number answer) = false
reads_end n (Reads number reading) = number == n && is_end reading.arrived
reads_end n (Writes number writing) = false
reads_end n (Closes number) = false

-- a connection has ended
abbrev pub connection_ended : ℕ → List ConnectionCall → Bool
connection_ended n calls = list_any (reads_end n) calls

-- the last of these lines is longer than any may be, and has no end yet
abbrev pub is_too_long : List ℕ → Bool
is_too_long bytes = nat_le line_limit (length (rest_of bytes))

-- a connection is over: it has ended, or says a line that is too long
abbrev pub is_over : ℕ → List ConnectionCall → Bool
is_over n calls = connection_ended n calls || is_too_long (bytes_from n calls)

-- these lines of a connection
abbrev pub said_by : ℕ → List (List ℕ) → List Said
said_by n lines = map (λ line. (n, line)) lines

-- what a connection says: its whole lines, in order
abbrev pub lines_of : List ConnectionCall → ℕ → List Said
lines_of calls n = said_by n (lines_in (bytes_from n calls))

-- the line that is handed in for the end of an application
abbrev pub reset_line : List ℕ
reset_line = codes "reset"

-- the end of a connection, if it is over and was an application
abbrev pub end_if : ℕ → (over spoke : Bool) → List Said
end_if n over spoke = if over && spoke then (n, reset_line) ∷ [] else []

-- what an application says: its whole lines, in order, and when it is over `reset`; a connection
-- without a whole line is no application, and says nothing
abbrev pub application_says : List ConnectionCall → ℕ → List Said
application_says calls n =
    lines_of calls n ++ end_if n (is_over n calls) (has_line (bytes_from n calls))

-- a connection is an application, and isn't over
abbrev pub lives : List ConnectionCall → ℕ → Bool
lives calls n = has_line (bytes_from n calls) && not (is_over n calls)

-- what applications among these connections say, one after another; after one that lives nothing
-- is heard
abbrev pub said_in_turn : List ConnectionCall → List ℕ → List Said
said_in_turn calls [] = []
said_in_turn calls (n ∷ later) =
    application_says calls n ++ (if lives calls n then [] else said_in_turn calls later)

-- all that applications say at a path
abbrev pub applications_say : List ConnectionCall → List Said
applications_say calls = said_in_turn calls (connections_in calls)

-- Between these calls some texts were handed in: of all that is said, whatever was handed in
-- before, these come next, and after them what is left to hand in then. It is known only where the
-- calls are reported.
abbrev pub HandsIn : (List ConnectionCall → List Said) → (old new : Option (List ConnectionCall))
    → (left left_then handed_in : List Said) → Type 0
HandsIn says old None left left_then handed_in = Unit {0}
HandsIn says None (Some new) left left_then handed_in = ⊥
HandsIn says (Some old) (Some new) left left_then handed_in =
    (before : List Said) → says old ≡ before ++ left
    → says new ≡ before ++ handed_in ++ left_then
