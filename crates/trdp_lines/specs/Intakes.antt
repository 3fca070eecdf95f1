-- The bytes that were read and not handed in.
use Rattle.std.specs.Prelude.{◌≡◌, ℕ, ◌-◌, ◌+◌, ◌<◌, ◌≤◌, List, length, take, drop, true}
use Rattle.std.specs.Prelude.{false}
use Rattle.trdp_lines.specs.declared.connections.Came.{Came}
use Rattle.trdp_lines.specs.Connections.{Reading, reading_of}
use Rattle.trdp_base.specs.Limits.{line_limit}
use Rattle.trdp_lines.specs.Lines.{has_line, first_line, behind_line}

-- room for one line with its end, in bytes
abbrev pub intake_room : ℕ
intake_room = line_limit

-- the bytes between two places of a room
abbrev pub lying : List ℕ → ℕ → ℕ → List ℕ
lying room begin «end» = drop begin (take «end» room)

-- where the bytes are in their room, and how many at their front have no end of a line
pub record LieInOrder (room : List ℕ) (begin «end» seen : ℕ) : Type 0 where
  pub size : length room ≡ intake_room
  pub within : «end» ≤ intake_room
  pub order : begin + seen ≤ «end»
  pub unended : has_line (take seen (lying room begin «end»)) ≡ false

-- the first line has that many bytes, without its end
pub record IsFirstLine (bytes : List ℕ) (n : ℕ) : Type 0 where
  pub within : n < length bytes
  pub some : has_line bytes ≡ true
  pub line : take n bytes ≡ first_line bytes
  pub rest : drop (n + 1) bytes ≡ behind_line bytes

-- the read that added the bytes by which the second list is longer than the first
abbrev pub reading_between : Came → List ℕ → List ℕ → Reading
reading_between came old new = reading_of came (intake_room - length old) (drop (length old) new)
