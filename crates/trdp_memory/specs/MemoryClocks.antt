-- A clock that reads a list.
use Rattle.std.specs.Prelude.{ℕ, zero, suc, ◌-◌, min, List, [], ◌∷◌, ◌++◌, length}
use Rattle.std.specs.Prelude.{slice_index_or}
use Rattle.std.specs.Prelude.{Option, Some, None, if◌then◌else◌}
use Rattle.trdp_memory.specs.declared.memory_clock.MemoryClock.{MemoryClock}
use Rattle.trdp_memory.specs.MemoryWires.{told}

-- the reading of that index, from 0: the list in order, and then its last again and again; 0 of an
-- empty list
abbrev pub reading_at : List ℕ → ℕ → ℕ
reading_at moments i = slice_index_or moments (min i (length moments - 1)) 0

-- the first n readings
abbrev pub readings_first : List ℕ → ℕ → List ℕ
readings_first moments zero = []
readings_first moments (suc n) = readings_first moments n ++ reading_at moments n ∷ []

-- what a clock reports of its sleeps
abbrev pub told_sleeps : MemoryClock → Option (List ℕ)
told_sleeps clock = told clock.tells_sleeps clock.sleeps.items

-- what it reports of its readings
abbrev pub told_readings : MemoryClock → Option (List ℕ)
told_readings clock =
    if clock.tells then Some (readings_first clock.moments.items clock.count) else None
