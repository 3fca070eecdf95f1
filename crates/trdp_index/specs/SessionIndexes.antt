-- What is seen of an index by session.
use Rattle.std.specs.Prelude.{ℕ, List, []}
use Rattle.trdp_index.specs.declared.session_row.SessionRow.{SessionRow}

-- its rows, in their order, and how many it may have
pub record SessionIndexState : Type 0 where
  pub rows : List SessionRow
  pub room : ℕ

-- an index without rows
abbrev pub empty_session_index : ℕ → SessionIndexState
empty_session_index room = record { rows = []; room = room }
