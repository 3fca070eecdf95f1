use Rattle.std.proofs.Common.{◌≡◌, ◌++◌, drop, map}
use Rattle.std.specs.List.{filter_map}
use Rattle.toml.specs.View.{view}
use Rattle.trdp_dataset.specs.Keys.{wanted_by}
use Rattle.trdp_dataset.specs.Values.{member_address_in}
use Rattle.trdp_dataset.proofs.read.addresses_among.Given as goal

abbrev pub invariant-loop-member : goal.invariant-loop-member
invariant-loop-member l =
    l.addresses.items ++ filter_map (member_address_in (wanted_by l.key))
    (map view (drop l.member-index l.members))
    ≡ filter_map (member_address_in (wanted_by l.key)) (map view l.members)
