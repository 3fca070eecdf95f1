-- What was reported so far, of calls and of what came of them.
use Rattle.std.specs.Prelude.{◌≡◌, List, ◌++◌, Option, Some, None}

-- a list that is reported afterwards was reported before, and these were added to it; nothing is
-- said where none is reported afterwards
abbrev pub TellsMore : {X : Type 0} → Option (List X) → Option (List X) → List X → Type 0
TellsMore old None more = Unit {0}
TellsMore None (Some new) more = ⊥
TellsMore (Some old) (Some new) more = new ≡ old ++ more
