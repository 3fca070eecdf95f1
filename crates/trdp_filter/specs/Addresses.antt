-- The tests of addresses that all receive filters share.
use Rattle.std.specs.Prelude.{Bool, ◌==◌, ◌&&◌, ◌||◌, nat_le}
use Rattle.trdp_base.specs.declared.place.Ip.{Ip}

-- the source range: both ends 0 match any source, else the source is from the low end to the high
-- end
-- rule: filter.source
unfoldable pub in_source_range : Ip → Ip → Ip → Bool
in_source_range low high source =
    low.0 == 0 && high.0 == 0 || nat_le low.0 source.0 && nat_le source.0 high.0

-- the destination address: 0 matches any, else it is the datagram's
-- rule: filter.destination
unfoldable pub is_destination : Ip → Ip → Bool
is_destination wanted destination = wanted.0 == 0 || wanted.0 == destination.0
