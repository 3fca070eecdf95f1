use Rattle.std.proofs.Common.{◌≡◌, ◌++◌, drop, map}
use Rattle.std.specs.List.{filter_map}
use Rattle.toml.specs.View.{view}
use Rattle.trdp_dataset.specs.Keys.{wanted_by}
use Rattle.trdp_dataset.specs.Values.{member_in}
use Rattle.trdp_dataset.proofs.read.numbers_among.Given as goal

abbrev pub invariant-loop-member : goal.invariant-loop-member
invariant-loop-member l =
    l.numbers.items ++ filter_map (member_in (wanted_by l.key))
    (map view (drop l.member-index l.members))
    ≡ filter_map (member_in (wanted_by l.key)) (map view l.members)
