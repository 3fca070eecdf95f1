-- What a stream of text was asked to take.
use Rattle.std.specs.Prelude.{ℕ, Bool, true, false, not, ◌==◌, List, [], ◌∷◌, ◌++◌, codes, take}

-- bytes that a stream was asked to take, and how many of them it took, from the front
pub record Attempt : Type 0 where
  pub bytes : List ℕ
  pub count : ℕ

abbrev pub attempt : List ℕ → ℕ → Attempt
attempt bytes count = record { bytes = bytes; count = count }

-- what it has by these
abbrev pub written_by : List Attempt → List ℕ
written_by [] = []
written_by (one ∷ more) = take one.count one.bytes ++ written_by more

-- whether a line is cut after these bytes, of which the last isn't its end; as before if there are
-- none
abbrev pub is_cut_behind : Bool → List ℕ → Bool
is_cut_behind before [] = before
is_cut_behind before (byte ∷ bytes) = is_cut_behind (not (byte == 10)) bytes

-- what ends a line that was cut
abbrev pub cut_line_end : Bool → List ℕ
cut_line_end false = []
cut_line_end true = codes "\n"
