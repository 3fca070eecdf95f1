-- What the connections at a path report of what was asked of them.
use Rattle.std.specs.Prelude.{ℕ, ◌<◌, ◌≤◌, Bool, true, false, List, [], take, Option}
use Rattle.std.specs.Prelude.{Some, None}
use Rattle.trdp_lines.specs.declared.connections.Accepted.{Accepted}
use Rattle.trdp_lines.specs.declared.connections.Came.{Came}
use Rattle.trdp_lines.specs.declared.connections.Came.TheVariants.{Bytes, Nothing, Ended}
use Rattle.trdp_lines.specs.declared.connections.Went.{Went}
use Rattle.trdp_lines.specs.declared.connections.Went.TheVariants.{Bytes as Took}
use Rattle.trdp_lines.specs.declared.connections.Went.TheVariants.{Nothing as TookNone}
use Rattle.trdp_lines.specs.declared.connections.Went.TheVariants.{Ended as TookNoMore}

-- what a read answered: these bytes, that none was there, or that no more come
pub data ReadAnswer : Type 0 where
  SomeBytes : (bytes : List ℕ) → ReadAnswer
  NoBytes : ReadAnswer
  NoMore : ReadAnswer

-- one read: how many bytes it had room for, and what it answered
pub record Reading : Type 0 where
  pub room : ℕ
  pub arrived : ReadAnswer

-- one write: the bytes that it was asked to take, and what it answered, with how many it took
pub record Writing : Type 0 where
  pub bytes : List ℕ
  pub went : Went

-- one call, with its answer: whether the next connection was there, and has this number then; a
-- read from a connection; a write to one; and the end of one
pub data ConnectionCall : Type 0 where
  Accepts : (number : ℕ) (answer : Accepted) → ConnectionCall
  Reads : (number : ℕ) (reading : Reading) → ConnectionCall
  Writes : (number : ℕ) (writing : Writing) → ConnectionCall
  Closes : (number : ℕ) → ConnectionCall

-- how many bytes came
abbrev pub came_count : Came → ℕ
came_count (Bytes n) = n
came_count Nothing = 0
came_count Ended = 0

-- bytes came, or the end
abbrev pub came_or_ended : Came → Bool
came_or_ended (Bytes n) = true
came_or_ended Nothing = false
came_or_ended Ended = true

-- how many bytes went
abbrev pub went_count : Went → ℕ
went_count (Took n) = n
went_count TookNone = 0
went_count TookNoMore = 0

-- where bytes came, it was one at least, and at most that many
abbrev pub CameWithin : ℕ → Came → Type 0
CameWithin most (Bytes n) = (0 < n) × (n ≤ most)
CameWithin most Nothing = Unit {0}
CameWithin most Ended = Unit {0}

-- where bytes went, it was one at least, and at most that many
abbrev pub WentWithin : ℕ → Went → Type 0
WentWithin most (Took n) = (0 < n) × (n ≤ most)
WentWithin most TookNone = Unit {0}
WentWithin most TookNoMore = Unit {0}

-- what a read answered, where what came is at the front of these bytes
abbrev pub read_answer_in : Came → List ℕ → ReadAnswer
read_answer_in (Bytes n) bytes = SomeBytes (take n bytes)
read_answer_in Nothing bytes = NoBytes
read_answer_in Ended bytes = NoMore

-- a read with room for that many bytes, where what came is at the front of these
abbrev pub reading_of : Came → ℕ → List ℕ → Reading
reading_of came room bytes = record { room = room; arrived = read_answer_in came bytes }

-- the bytes that came
abbrev pub bytes_arrived : ReadAnswer → List ℕ
bytes_arrived (SomeBytes bytes) = bytes
bytes_arrived NoBytes = []
bytes_arrived NoMore = []

-- the bytes of a reading
abbrev pub reading_bytes : Reading → List ℕ
reading_bytes reading = bytes_arrived reading.arrived

-- the write that was asked to take these bytes, and answered this
abbrev pub writing_of : List ℕ → Went → Writing
writing_of bytes went = record { bytes = bytes; went = went }

-- this holds of calls, if they are reported
abbrev pub IfTold : (List ConnectionCall → Type 0) → Option (List ConnectionCall) → Type 0
IfTold P None = Unit {0}
IfTold P (Some calls) = P calls

-- this holds of calls that are reported afterwards, which were reported before
abbrev pub Between : (List ConnectionCall → List ConnectionCall → Type 0)
    → (calls calls_then : Option (List ConnectionCall)) → Type 0
Between R calls None = Unit {0}
Between R None (Some calls_then) = ⊥
Between R (Some calls) (Some calls_then) = R calls calls_then
