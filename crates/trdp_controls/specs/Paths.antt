-- The paths of control ports.
use Rattle.std.specs.Prelude.{ℕ, List, ◌++◌, codes, decimal}

-- a file in a folder, which has the number as its name
abbrev pub path_of : List ℕ → ℕ → List ℕ
path_of folder number = folder ++ codes "/" ++ decimal number
