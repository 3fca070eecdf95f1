-- The lines that are handed in over a run of what comes in.
use Rattle.std.specs.List.{flat_map}
use Rattle.std.specs.Prelude.{ℕ, List, [], ◌∷◌, ◌++◌, if◌then◌else◌}
use Rattle.trdp_lines.specs.Lines.{has_line, first_line, behind_line}

-- one step, as `fill` and `next_line` do it: bytes come, or the next line is asked for
pub data IntakeStep : Type 0 where
  Filled : (bytes : List ℕ) → IntakeStep
  Asked : IntakeStep

-- the bytes that aren't handed in after a step
abbrev pub left_after : List ℕ → IntakeStep → List ℕ
left_after bytes (Filled more) = bytes ++ more
left_after bytes Asked = if has_line bytes then behind_line bytes else bytes

-- the bytes that aren't handed in after these steps
abbrev pub left_at_end : List ℕ → List IntakeStep → List ℕ
left_at_end bytes [] = bytes
left_at_end bytes (step ∷ steps) = left_at_end (left_after bytes step) steps

-- the line that a step hands in, if it does
abbrev pub line_at : List ℕ → IntakeStep → List (List ℕ)
line_at bytes (Filled more) = []
line_at bytes Asked = if has_line bytes then first_line bytes ∷ [] else []

-- the lines that are handed in, in order
abbrev pub lines_handed_in : List ℕ → List IntakeStep → List (List ℕ)
lines_handed_in bytes [] = []
lines_handed_in bytes (step ∷ steps) =
    line_at bytes step ++ lines_handed_in (left_after bytes step) steps

abbrev pub bytes_at : IntakeStep → List ℕ
bytes_at (Filled more) = more
bytes_at Asked = []

-- the bytes that come, in order
abbrev pub all_bytes : List IntakeStep → List ℕ
all_bytes steps = flat_map bytes_at steps
