use Rattle.std.proofs.Common.{◌≡◌, ◌++◌, drop}
use Rattle.trdp_dataset.specs.Positions.{positions_of_all}
use Rattle.trdp_dataset.specs.Seen.{positions_seen, tables_seen}
use Rattle.trdp_dataset.proofs.position.push_all.Given as goal

abbrev pub invariant-loop-member : goal.invariant-loop-member
invariant-loop-member l =
    positions_seen l.positions.items
    ++ positions_of_all l.keys (tables_seen (drop l.member-index l.members))
    ≡ positions_seen l.fn.positions.items ++ positions_of_all l.keys (tables_seen l.members)
