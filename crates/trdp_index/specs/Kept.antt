-- What is kept true of an index and its list.
use Rattle.std.specs.Prelude.{ℕ, ◌≤◌, List, length}
use Rattle.trdp_index.specs.declared.rank.Rank.{Rank}
use Rattle.trdp_index.specs.Rows.{IsRising}

-- the rows rise, they are within their room, and the list has that room
pub record AreKept {Row : Type 0} (rank_of : Row → Rank) (rows : List Row)
    (room capacity : ℕ) : Type 0 where
  pub rising : IsRising rank_of rows
  pub within : length rows ≤ room
  pub reserved : room ≤ capacity
