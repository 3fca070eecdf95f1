-- The parts of a text before and after a byte.
use Rattle.std.specs.Prelude.{◌≡◌, ℕ, List, ◌∷◌, ◌++◌, ◌==◌, false}
use Rattle.std.specs.List.{All}

-- that byte isn't among the bytes
abbrev pub Lacks : ℕ → List ℕ → Type 0
Lacks it bytes = All (λ byte. (byte == it) ≡ false) bytes

-- the bytes are those before the first that is that byte, the byte, and those after it
pub record IsSplit (it : ℕ) (bytes before behind : List ℕ) : Type 0 where
  pub whole : bytes ≡ before ++ it ∷ behind
  pub bare : Lacks it before
