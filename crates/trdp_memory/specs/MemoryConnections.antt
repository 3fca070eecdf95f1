-- Connections in memory: what was laid down for them, and what their calls do with that.
use Rattle.std.specs.Prelude.{◌≡◌, ◌⊎◌, ℕ, zero, suc, ◌+◌, ◌==◌, ◌&&◌, ◌||◌, nat_le, nat_lt, min}
use Rattle.std.specs.Prelude.{List, [], ◌∷◌, ◌++◌, take, drop, length, Bool, true, false}
use Rattle.std.specs.Prelude.{if◌then◌else◌, Option, Some, None, Result, Ok, Err}
use Rattle.std.specs.List.{find, count_by}
use Rattle.std.specs.declared.alloc.AllocError.{AllocError}
use Rattle.trdp_lines.specs.declared.connections.Accepted.{Accepted}
use Rattle.trdp_lines.specs.declared.connections.Accepted.TheVariants.{Nothing as NoneComes}
use Rattle.trdp_lines.specs.declared.connections.Went.{Went}
use Rattle.trdp_lines.specs.declared.connections.Went.TheVariants.{Bytes as Took}
use Rattle.trdp_lines.specs.declared.connections.Went.TheVariants.{Nothing as TookNone}
use Rattle.trdp_lines.specs.declared.connections.Went.TheVariants.{Ended as TookNoMore}
use Rattle.trdp_lines.specs.Connections.{ConnectionCall, Accepts, Reads, Writes, Closes}
use Rattle.trdp_lines.specs.Connections.{ReadAnswer, SomeBytes, NoBytes, NoMore}
use Rattle.trdp_lines.specs.Connections.{reading_of, writing_of}
use Rattle.trdp_memory.specs.declared.connection_rows.Coming.{Coming}
use Rattle.trdp_memory.specs.declared.connection_rows.WriteAnswer.{WriteAnswer}
use Rattle.trdp_memory.specs.declared.connection_rows.ConnectionRow.{ConnectionRow}
use Rattle.trdp_memory.specs.declared.connection_rows.ConnectionRow.TheVariants as row

-- what was laid down of one connection: its number, the read from it from which on this is there,
-- counted from 1, and the bytes that are left; or that it has ended
pub record StreamArrivalModel : Type 0 where
  pub number : ℕ
  pub at_read : ℕ
  pub bytes : List ℕ
  pub ends : Bool

-- connections in memory: the path of their file, and its number; what was laid down, and what is
-- left of it; their calls, and whether they report them
pub record MemoryConnectionsState : Type 0 where
  pub folder : List ℕ
  pub file_number : ℕ
  pub comings : List Coming
  pub arrivals : List StreamArrivalModel
  pub answers : List WriteAnswer
  pub calls : List ConnectionCall
  pub tells : Bool

abbrev pub no_connections : (folder : List ℕ) → (number : ℕ) → MemoryConnectionsState
no_connections folder number = record {
  folder = folder;
  file_number = number;
  comings = [];
  arrivals = [];
  answers = [];
  calls = [];
  tells = true;
}

-- one more thing is laid down: the answer of an accept, what a connection says or that it ends, or
-- the answer of a write
abbrev pub with_coming : MemoryConnectionsState → Coming → MemoryConnectionsState
with_coming old coming = record old { comings = old.comings ++ coming ∷ [] }

abbrev pub with_stream_arrival : MemoryConnectionsState → StreamArrivalModel
    → MemoryConnectionsState
with_stream_arrival old arrival = record old { arrivals = old.arrivals ++ arrival ∷ [] }

abbrev pub with_write_answer : MemoryConnectionsState → WriteAnswer → MemoryConnectionsState
with_write_answer old answer = record old { answers = old.answers ++ answer ∷ [] }

-- the call that is remembered so
abbrev pub connection_call : ConnectionRow → ConnectionCall
connection_call (row.Accepted number answer) = Accepts number answer
connection_call (row.Read number room came bytes) = Reads number (reading_of came room bytes.items)
connection_call (row.Written number bytes went) = Writes number (writing_of bytes.items went)
connection_call (row.Closed number) = Closes number

-- whether a call is an accept, a read from the connection of this number, or a write to it
abbrev pub is_accept : ConnectionCall → Bool
is_accept (Accepts number answer) = true
is_accept (Reads number reading) = false
is_accept (Writes number writing) = false
is_accept (Closes number) = false

abbrev pub is_read_of : ℕ → ConnectionCall → Bool
is_read_of n (Accepts number answer) = false
is_read_of n (Reads number reading) = number == n
is_read_of n (Writes number writing) = false
is_read_of n (Closes number) = false

abbrev pub is_write_of : ℕ → ConnectionCall → Bool
is_write_of n (Accepts number answer) = false
is_write_of n (Reads number reading) = false
is_write_of n (Writes number writing) = number == n
is_write_of n (Closes number) = false

-- what an accept of that number answers: what was laid down for it, the first of several; where
-- nothing was, no connection is there
abbrev pub comes_at : ℕ → Coming → Bool
comes_at number coming = coming.at_accept == number

abbrev pub accepted_of : Option Coming → Accepted
accepted_of None = NoneComes
accepted_of (Some coming) = coming.answer

unfoldable pub next_accepted : MemoryConnectionsState → Accepted
next_accepted old = accepted_of (find (comes_at (count_by is_accept old.calls + 1)) old.comings)

-- something that was laid down is there at the read of that number from a connection: the end, or
-- bytes of which some are left
abbrev pub has_arrived : (number read : ℕ) → StreamArrivalModel → Bool
has_arrived number read arrival = arrival.number == number && (nat_le arrival.at_read read
    && (arrival.ends || nat_lt 0 (length arrival.bytes)))

-- what a read with that room answers, if this is there, and what is left of it then
abbrev pub answer_from : (room : ℕ) → StreamArrivalModel → ReadAnswer
answer_from room arrival = if arrival.ends then NoMore else SomeBytes (take room arrival.bytes)

abbrev pub left_from : (room : ℕ) → StreamArrivalModel → StreamArrivalModel
left_from room arrival = if arrival.ends then arrival
    else record arrival { bytes = drop room arrival.bytes }

-- the same of the first thing that is there
abbrev pub answer_for : (number read room : ℕ) → List StreamArrivalModel → ReadAnswer
answer_for number read room [] = NoBytes
answer_for number read room (arrival ∷ arrivals) = if has_arrived number read arrival
    then answer_from room arrival else answer_for number read room arrivals

abbrev pub unread_behind : (number read room : ℕ) → List StreamArrivalModel → List StreamArrivalModel
unread_behind number read room [] = []
unread_behind number read room (arrival ∷ arrivals) = if has_arrived number read arrival
    then left_from room arrival ∷ arrivals else arrival ∷ unread_behind number read room arrivals

-- the number of the next read from a connection, and of the next write to it, from 1
abbrev pub next_read : MemoryConnectionsState → ℕ → ℕ
next_read old number = count_by (is_read_of number) old.calls + 1

abbrev pub next_write : MemoryConnectionsState → ℕ → ℕ
next_write old number = count_by (is_write_of number) old.calls + 1

-- what the next read from a connection answers, and these connections then
unfoldable pub next_answer : MemoryConnectionsState → (number room : ℕ) → ReadAnswer
next_answer old number room = answer_for number (next_read old number) room old.arrivals

unfoldable pub after_read : MemoryConnectionsState → (number room : ℕ) → MemoryConnectionsState
after_read old number room = record old {
  arrivals = unread_behind number (next_read old number) room old.arrivals;
}

-- what a write of so many bytes answers, if this was laid down for it, and else: all are taken
abbrev pub answers_write : (number write : ℕ) → WriteAnswer → Bool
answers_write number write answer = answer.number == number && answer.at_write == write

abbrev pub took : ℕ → Went
took zero = TookNone
took (suc n) = Took (suc n)

abbrev pub cut_went : ℕ → Went → Went
cut_went many (Took n) = took (min n many)
cut_went many TookNone = TookNone
cut_went many TookNoMore = TookNoMore

abbrev pub went_by : ℕ → Option WriteAnswer → Went
went_by many None = took many
went_by many (Some answer) = cut_went many answer.went

unfoldable pub next_went : MemoryConnectionsState → (number many : ℕ) → Went
next_went old number many =
    went_by many (find (answers_write number (next_write old number)) old.answers)

-- a call is remembered after those before, or it isn't, and from then on none is reported
abbrev pub Keeps : ConnectionCall → (calls calls_then : List ConnectionCall)
    → (tells tells_then : Bool) → Type 0
Keeps call calls calls_then tells tells_then =
    ((calls_then ≡ calls ++ call ∷ []) × (tells_then ≡ tells))
    ⊎ ((calls_then ≡ calls) × (tells_then ≡ false))

-- the same of the call of a row, for which an allocation may have failed
abbrev pub KeepsRow : Result ConnectionRow AllocError → (calls calls_then : List ConnectionCall)
    → (tells tells_then : Bool) → Type 0
KeepsRow (Ok r) calls calls_then tells tells_then =
    Keeps (connection_call r) calls calls_then tells tells_then
KeepsRow (Err fault) calls calls_then tells tells_then =
    (calls_then ≡ calls) × (tells_then ≡ false)

-- these connections have changed by that alone
pub record Remembers (old : MemoryConnectionsState) (call : ConnectionCall)
    (new : MemoryConnectionsState) : Type 0 where
  pub calls : Keeps call old.calls new.calls old.tells new.tells
  pub stays : new ≡ record old { calls = new.calls; tells = new.tells }
