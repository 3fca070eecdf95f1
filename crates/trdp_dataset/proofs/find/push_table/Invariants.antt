use Rattle.std.proofs.Common.{◌≡◌, ◌++◌, drop}
use Rattle.toml.specs.View.{table_view}
use Rattle.trdp_dataset.specs.Positions.{positions_at}
use Rattle.trdp_dataset.specs.Findings.{faults_of, all_faults}
use Rattle.trdp_dataset.proofs.find.push_table.Given as goal

abbrev pub invariant-loop-key : goal.invariant-loop-key
invariant-loop-key l = faults_of l.found.items
    ++ all_faults (positions_at (drop l.key-index l.keys) (table_view l.table))
    ≡ faults_of l.fn.found.items ++ all_faults (positions_at l.keys (table_view l.table))
