-- What a search for a rank finds.
use Rattle.std.specs.Prelude.{◌≡◌, ℕ, ◌<◌, List, length, None, slice_get, remove}
use Rattle.trdp_index.specs.declared.rank.Rank.{Rank}
use Rattle.trdp_index.specs.Rows.{row_of, without_rank}

-- the index in the list of the row of a rank: all others are the list without that index
pub record IsIndexOf {Row : Type 0} (rank_of : Row → Rank) (rank : Rank) (rows : List Row)
    (i : ℕ) : Type 0 where
  pub within : i < length rows
  pub found : slice_get rows i ≡ row_of rank_of rank rows
  pub others : remove rows i ≡ without_rank rank_of rank rows

-- no row has the rank
pub record IsAbsent {Row : Type 0} (rank_of : Row → Rank) (rank : Rank)
    (rows : List Row) : Type 0 where
  pub none : row_of rank_of rank rows ≡ None
  pub others : without_rank rank_of rank rows ≡ rows
