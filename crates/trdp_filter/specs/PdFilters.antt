-- Receive filters of process data.
use Rattle.std.specs.Prelude.{Bool, ◌==◌, ◌&&◌}
use Rattle.trdp_base.specs.declared.place.Place.{Place}
use Rattle.trdp_base.specs.declared.topo.Topo.{Topo}
use Rattle.trdp_head.specs.declared.pd.PdHead.{PdHead}
use Rattle.trdp_filter.specs.declared.filters.PdFilter.{PdFilter}
use Rattle.trdp_filter.specs.Addresses.{in_source_range, is_destination}
use Rattle.trdp_filter.specs.Counts.{topo_valid}

-- receive filter: equal comId, source in range, destination address, and counters that match the
-- filter's and the node's
-- rule: subscription.filter
unfoldable pub pd_passes : PdFilter → Place → Place → PdHead → Topo → Bool
pd_passes filter src dst head node =
    filter.com_id == head.com_id && in_source_range filter.low filter.high src.ip
    && is_destination filter.dest dst.ip
    && topo_valid head.topo filter.topo && topo_valid head.topo node
