use Rattle.std.proofs.Common.{◌≡◌, ◌++◌, drop, map}
use Rattle.toml.specs.View.{table_view}
use Rattle.trdp_dataset.specs.Seen.{tables_seen}
use Rattle.trdp_dataset.specs.Misfits.{row_in, file_rows, rows_seen}
use Rattle.trdp_dataset.proofs.row.read_rows.Given as goal

abbrev pub invariant-loop-index : goal.invariant-loop-index
invariant-loop-index l = rows_seen l.rows.items
    ++ map row_in (tables_seen (drop l.index l.members)) ≡ file_rows (table_view l.top)
