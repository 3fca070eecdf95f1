use Rattle.std.proofs.Common.{◌≡◌, ◌++◌, [], drop, take, map}
use Rattle.toml.specs.View.{view}
use Rattle.trdp_dataset.specs.Findings.{faults_of, unwanted}
use Rattle.trdp_dataset.proofs.members.push_unwanted.Given as goal

abbrev pub invariant-loop-index : goal.invariant-loop-index
invariant-loop-index l = faults_of l.found.items
    ++ unwanted l.key l.are_few (map view (take l.index l.members))
    (map view (drop l.index l.members))
    ≡ faults_of l.fn.found.items ++ unwanted l.key l.are_few [] (map view l.members)
