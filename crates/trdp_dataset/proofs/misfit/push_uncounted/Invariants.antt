use Rattle.std.proofs.Common.{◌≡◌, ◌++◌, false, drop}
use Rattle.trdp_dataset.specs.Findings.{faults_of}
use Rattle.trdp_dataset.specs.Misfits.{counts_missing}
use Rattle.trdp_dataset.proofs.misfit.push_uncounted.Given as goal

abbrev pub invariant-loop-index : goal.invariant-loop-index
invariant-loop-index l = faults_of l.found.items
    ++ counts_missing l.is_counted (drop l.index l.elements)
    ≡ faults_of l.fn.found.items ++ counts_missing false l.row.elements.items
