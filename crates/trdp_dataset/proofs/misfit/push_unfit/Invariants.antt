use Rattle.std.proofs.Common.{◌≡◌, ◌++◌, drop, flat_map}
use Rattle.trdp_dataset.specs.Findings.{faults_of}
use Rattle.trdp_dataset.specs.Misfits.{rows_seen, unfit_of}
use Rattle.trdp_dataset.proofs.misfit.push_unfit.Given as goal

abbrev pub invariant-loop-row : goal.invariant-loop-row
invariant-loop-row l = faults_of l.found.items
    ++ flat_map (unfit_of l.known) (rows_seen (drop l.row-index l.rows))
    ≡ faults_of l.fn.found.items
    ++ flat_map (unfit_of l.known) (rows_seen l.rows)
