-- The handles of a slot's list rise.
-- For crates above, whose lemmas speak of one object among those of a slot.
-- By definition alone.
use Rattle.std.specs.Prelude.{ℕ, ◌<◌, List, [], ◌∷◌}
use Rattle.trdp_model.specs.Slots.{Entry}

-- each handle is above h
abbrev pub AllAbove : ℕ → List Entry → Type 0
AllAbove h [] = Unit {0}
AllAbove h (entry ∷ entries) = (h < entry.handle) × AllAbove h entries

-- the handles rise
abbrev pub IsRising : List Entry → Type 0
IsRising [] = Unit {0}
IsRising (entry ∷ entries) = AllAbove entry.handle entries × IsRising entries
