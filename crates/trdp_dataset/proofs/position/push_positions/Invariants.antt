use Rattle.std.proofs.Common.{◌≡◌, ◌++◌, take, map}
use Rattle.toml.specs.View.{table_view}
use Rattle.trdp_dataset.specs.Positions.{position_at}
use Rattle.trdp_dataset.specs.Seen.{positions_seen}
use Rattle.trdp_dataset.proofs.position.push_positions.Given as goal

abbrev pub invariant-loop-key : goal.invariant-loop-key
invariant-loop-key l = positions_seen l.positions.items ≡ positions_seen l.fn.positions.items
    ++ map (position_at (table_view l.table)) (take l.key-index l.keys)
