use Rattle.std.proofs.Common.{◌≡◌, ◌++◌, drop, flat_map}
use Rattle.trdp_dataset.specs.Findings.{faults_of}
use Rattle.trdp_dataset.specs.Misfits.{missing_of}
use Rattle.trdp_dataset.proofs.misfit.push_unknown.Given as goal

abbrev pub invariant-loop-index : goal.invariant-loop-index
invariant-loop-index l = faults_of l.found.items
    ++ flat_map (missing_of l.known) (drop l.index l.elements)
    ≡ faults_of l.fn.found.items ++ flat_map (missing_of l.known) l.row.elements.items
