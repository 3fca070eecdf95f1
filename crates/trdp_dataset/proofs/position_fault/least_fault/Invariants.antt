use Rattle.std.proofs.Common.{◌≡◌, map}
use Rattle.trdp_dataset.specs.Seen.{positions_seen}
use Rattle.trdp_dataset.specs.Faults.{fault_at, least_of_two, least_fault}
use Rattle.trdp_dataset.proofs.LeastLemmas.{least_from}
use Rattle.trdp_dataset.proofs.position_fault.least_fault.Given as goal

abbrev pub invariant-loop-position : goal.invariant-loop-position
invariant-loop-position l = least_of_two l.least (least_from l.positions l.position-index)
    ≡ least_fault (map fault_at (positions_seen l.positions))
