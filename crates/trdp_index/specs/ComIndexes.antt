-- What is seen of an index by comId.
use Rattle.std.specs.Prelude.{ℕ, List, []}
use Rattle.trdp_index.specs.declared.com_row.ComRow.{ComRow}

-- its rows, in their order, and how many it may have
pub record ComIndexState : Type 0 where
  pub rows : List ComRow
  pub room : ℕ

-- an index without rows
abbrev pub empty_com_index : ℕ → ComIndexState
empty_com_index room = record { rows = []; room = room }
