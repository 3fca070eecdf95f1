-- Text on its way to a writer.
use Rattle.std.specs.Prelude.{◌≡◌, ℕ, List, ◌++◌, take, Option}
use Rattle.std.specs.Io.KnownBytes.{Appends}

-- what was held back and then the text went to the writer, but for what is held back now
-- rule: run.whole
pub record PassesOn (old new : Option (List ℕ)) (held held_then text : List ℕ) : Type 0 where
  pub part : List ℕ
  pub written : Appends old new part
  pub rest : held ++ text ≡ part ++ held_then

-- a front of what was held back and of the text went to the writer
pub record PassesSome (old new : Option (List ℕ)) (held text : List ℕ) : Type 0 where
  pub lost : List ℕ
  pub passed : PassesOn old new held lost text

-- a front of the bytes was written, as far as the writer reports it
abbrev pub PartlyWrites : Option (List ℕ) → Option (List ℕ) → List ℕ → Type 0
PartlyWrites old new bytes = (n : ℕ) × Appends old new (take n bytes)
