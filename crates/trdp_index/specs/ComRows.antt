-- Rows of objects by comId.
use Rattle.std.specs.Prelude.{ℕ, suc, ◌==◌, List, Option, Some, None, Bool, true, false, filter}
use Rattle.trdp_index.specs.declared.rank.Rank.{Rank}
use Rattle.trdp_index.specs.declared.com_row.ComRow.{ComRow}
use Rattle.trdp_index.specs.Rows.{has_row}

-- the number of a comId in the order of rows: any comes first
abbrev pub com_number : Option ℕ → ℕ
com_number None = 0
com_number (Some com_id) = suc com_id

-- the rank of the row of a comId, a slot and a handle
abbrev pub com_rank : Option ℕ → ℕ → ℕ → Rank
com_rank com_id slot handle =
    record { first = com_number com_id; slot = slot; last = handle }

-- the rank of a row
abbrev pub com_row_rank : ComRow → Rank
com_row_rank row = com_rank row.com_id row.slot row.handle

-- the first rank that a row of a comId may have
abbrev pub com_start : Option ℕ → Rank
com_start com_id = com_rank com_id 0 0

-- the first rank after those of all rows of a comId
abbrev pub com_end : Option ℕ → Rank
com_end com_id = record { first = suc (com_number com_id); slot = 0; last = 0 }

-- there is a row of that comId, or any, with that slot and handle
abbrev pub has_com_row : Option ℕ → ℕ → ℕ → List ComRow → Bool
has_com_row com_id slot handle rows = has_row com_row_rank (com_rank com_id slot handle) rows

-- two comIds are one, or both any
abbrev pub is_same_com : Option ℕ → Option ℕ → Bool
is_same_com None None = true
is_same_com None (Some b) = false
is_same_com (Some a) None = false
is_same_com (Some a) (Some b) = a == b

-- the rows of a comId, or of any
abbrev pub run_of : Option ℕ → List ComRow → List ComRow
run_of com_id rows = filter (λ row. is_same_com row.com_id com_id) rows
