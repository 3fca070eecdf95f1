use Rattle.std.proofs.Common.{◌≡◌, ◌++◌, [], drop, map}
use Rattle.trdp_dataset.specs.Findings.{faults_of}
use Rattle.trdp_dataset.specs.Misfits.{row_dataset, rows_seen, firsts, twices}
use Rattle.trdp_dataset.proofs.misfit.push_twice.Given as goal

abbrev pub invariant-loop-row : goal.invariant-loop-row
invariant-loop-row l = record {
  known : firsts l.known (map row_dataset (rows_seen (drop l.row-index l.rows)))
      ≡ firsts [] (map row_dataset (rows_seen l.rows));
  faults : faults_of l.found.items
      ++ twices l.known (map row_dataset (rows_seen (drop l.row-index l.rows)))
      ≡ faults_of l.fn.found.items ++ twices [] (map row_dataset (rows_seen l.rows));
}
