-- Which connections are there at a path, and why one was closed.
use Rattle.std.specs.Prelude.{◌≡◌, ℕ, ◌<◌, ◌==◌, ◌++◌, Bool, true, false, List, [], ◌∷◌}
use Rattle.std.specs.Prelude.{Option, Some, None}
use Rattle.std.specs.List.{list_any}
use Rattle.trdp_lines.specs.Connections.{ConnectionCall, Accepts, Reads, Writes, Closes}
use Rattle.trdp_lines.specs.Connections.{IfTold, NoBytes, Reading}
use Rattle.trdp_lines.specs.Said.{bytes_from, connections_in, connection_ended, is_over}

-- a call ends the connection of this number
abbrev pub closes : ℕ → ConnectionCall → Bool
closes n (Accepts number answer) = false
closes n (Reads number reading) = false
closes n (Writes number writing) = false
closes n (Closes number) = number == n

-- among these calls is the end of it
abbrev pub was_closed : ℕ → List ConnectionCall → Bool
was_closed n calls = list_any (closes n) calls

-- this number is among these
abbrev pub is_one_of : ℕ → List ℕ → Bool
is_one_of n numbers = list_any (λ m. m == n) numbers

-- a connection is there: it came, and wasn't closed
pub record IsThere (n : ℕ) (calls : List ConnectionCall) : Type 0 where
  pub came : is_one_of n (connections_in calls) ≡ true
  pub unclosed : was_closed n calls ≡ false

-- each connection that has a seat is there; it is known only where the calls are reported
abbrev pub AreThere : Option (List ConnectionCall) → (has : ℕ → Bool) → Type 0
AreThere None has = Unit {0}
AreThere (Some calls) has = (n : ℕ) → has n ≡ true → IsThere n calls

-- each connection that has a seat is there, and none was closed that didn't come yet
pub record AreOpen (calls : List ConnectionCall) (has : ℕ → Bool) (came : ℕ) : Type 0 where
  pub there : (n : ℕ) → has n ≡ true → IsThere n calls
  pub later : (n : ℕ) → came < n → was_closed n calls ≡ false

-- the same of calls that may not be reported
abbrev pub AreOpenIfTold : Option (List ConnectionCall) → (has : ℕ → Bool) → (came : ℕ) → Type 0
AreOpenIfTold calls has came = IfTold (λ told. AreOpen told has came) calls

-- of a connection nothing was read between these calls
pub record IsUnheard (calls calls_then : List ConnectionCall) (n : ℕ) : Type 0 where
  pub bytes : bytes_from n calls_then ≡ bytes_from n calls
  pub ended : connection_ended n calls_then ≡ connection_ended n calls

-- the last of these calls read from a connection, and no byte was there: it goes on, and is silent
pub record FoundNothing (n : ℕ) (calls : List ConnectionCall) : Type 0 where
  pub before : List ConnectionCall
  pub reading : Reading
  pub nothing : reading.arrived ≡ NoBytes
  pub last : calls ≡ before ++ Reads n reading ∷ []

-- the same of calls that may not be reported
abbrev pub FindsNothing : ℕ → Option (List ConnectionCall) → Type 0
FindsNothing n None = Unit {0}
FindsNothing n (Some calls) = FoundNothing n calls

-- a connection was over, and was closed then; nothing was read from it after that
pub record HasLeft (n : ℕ) (calls : List ConnectionCall) : Type 0 where
  pub before : List ConnectionCall
  pub behind : List ConnectionCall
  pub over : is_over n before ≡ true
  pub told : calls ≡ before ++ Closes n ∷ behind
  pub unread : IsUnheard before calls n

-- of a connection it is not reported that it is over
abbrev pub IsGoing : ℕ → Option (List ConnectionCall) → Type 0
IsGoing n None = Unit {0}
IsGoing n (Some calls) = is_over n calls ≡ false
