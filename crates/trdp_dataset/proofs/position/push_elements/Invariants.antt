use Rattle.std.proofs.Common.{◌≡◌, ◌++◌, drop}
use Rattle.trdp_dataset.specs.Positions.{element_positions}
use Rattle.trdp_dataset.specs.Seen.{positions_seen, tables_seen}
use Rattle.trdp_dataset.proofs.position.push_elements.Given as goal

abbrev pub invariant-loop-dataset : goal.invariant-loop-dataset
invariant-loop-dataset l =
    positions_seen l.positions.items
    ++ element_positions (tables_seen (drop l.dataset-index l.datasets))
    ≡ positions_seen l.fn.positions.items ++ element_positions (tables_seen l.datasets)
