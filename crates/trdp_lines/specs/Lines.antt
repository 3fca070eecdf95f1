-- Lines in bytes, each with an end.
use Rattle.std.specs.List.{flat_map}
use Rattle.std.specs.Prelude.{◌≡◌, ◌++◌, ℕ, ◌==◌, ◌||◌, Bool, false, List, [], ◌∷◌, if◌then◌else◌}

-- the byte that ends a line
abbrev pub line_end : ℕ
line_end = 10

-- the end of a line is there
abbrev pub has_line : List ℕ → Bool
has_line [] = false
has_line (byte ∷ bytes) = byte == line_end || has_line bytes

-- what comes before the first end of a line, or all where there is none
abbrev pub first_line : List ℕ → List ℕ
first_line [] = []
first_line (byte ∷ bytes) = if byte == line_end then [] else byte ∷ first_line bytes

-- what follows the first end of a line, or nothing where there is none
abbrev pub behind_line : List ℕ → List ℕ
behind_line [] = []
behind_line (byte ∷ bytes) = if byte == line_end then bytes else behind_line bytes

-- what follows the last end of a line, or all where there is none
abbrev pub rest_of : List ℕ → List ℕ
rest_of [] = []
rest_of (byte ∷ bytes) = if has_line (byte ∷ bytes) then rest_of bytes else byte ∷ bytes

-- the first of these lines begins with one byte more
abbrev pub longer_first : ℕ → List (List ℕ) → List (List ℕ)
longer_first byte [] = []
longer_first byte (line ∷ lines) = (byte ∷ line) ∷ lines

-- all whole lines, in order, without their ends
abbrev pub lines_in : List ℕ → List (List ℕ)
lines_in [] = []
lines_in (byte ∷ bytes) =
    if byte == line_end then [] ∷ lines_in bytes else longer_first byte (lines_in bytes)

-- these lines, each with its end
abbrev pub with_ends : List (List ℕ) → List ℕ
with_ends lines = flat_map (λ line. line ++ line_end ∷ []) lines

-- the end of a line is not there
abbrev pub IsUnended : List ℕ → Type 0
IsUnended bytes = has_line bytes ≡ false
