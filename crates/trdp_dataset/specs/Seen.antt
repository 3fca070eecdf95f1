-- What contracts see of positions.
use Rattle.std.specs.Prelude.{List, map, option_map}
use Rattle.std.specs.List.{filter_map}
use Rattle.toml.specs.Data.{Members, as_table}
use Rattle.toml.specs.View.{view}
use Rattle.toml.specs.declared.value.Value.{Value}
use Rattle.trdp_dataset.specs.declared.position.Position.{Position}
use Rattle.trdp_dataset.specs.Positions.{PositionModel}

-- a position with the data of its value
abbrev pub position_seen : Position → PositionModel
position_seen position =
    record { key = position.key; found = option_map (λ v. view v.now) position.value }

abbrev pub positions_seen : List Position → List PositionModel
positions_seen positions = map position_seen positions

-- the tables among values
abbrev pub tables_seen : List Value → List Members
tables_seen values = filter_map (λ v. as_table (view v)) values
