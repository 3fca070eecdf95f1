-- What is counted of an act, and of what counts nothing.
use Rattle.std.specs.Prelude.{ℕ, Some, None}
use Rattle.std.specs.Prelude.{Option}
use Rattle.trdp_store.specs.declared.counts.Counts.{Counts}
use Rattle.std.specs.Prelude.{ℕ}
use Rattle.std.specs.Prelude.{Option, Some, None}
use Rattle.trdp_store.specs.declared.counts.Counts.{Counts}
use Rattle.trdp_store.specs.declared.deed.Left.{Left}
use Rattle.trdp_store.specs.declared.deed.Left.TheVariants.{Stays, Ended}

-- nothing was counted
abbrev pub no_counts : Counts
no_counts = record { comparisons = 0; tests = 0; look_ups = 0 }

-- how often two orders were compared as something was done to an object, if there was one
abbrev pub compared_for : Option (Left × ℕ) → ℕ
compared_for None = 0
compared_for (Some did) = did.1

-- the look-ups of it: one where the object ended
abbrev pub looked_up_as : Left → ℕ
looked_up_as Stays = 0
looked_up_as Ended = 1

-- the same, if there was one
abbrev pub looked_up_for : Option (Left × ℕ) → ℕ
looked_up_for None = 0
looked_up_for (Some did) = looked_up_as did.0
