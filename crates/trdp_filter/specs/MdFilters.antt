-- Receive filters of message data.
use Rattle.std.specs.Prelude.{ℕ, List, [], Option, Some, None, Bool, true, ◌==◌, ◌&&◌, ◌||◌}
use Rattle.std.specs.Prelude.{bytes_eq}
use Rattle.trdp_base.specs.declared.place.Place.{Place}
use Rattle.trdp_base.specs.declared.topo.Topo.{Topo}
use Rattle.trdp_head.specs.declared.md.MdHead.{MdHead}
use Rattle.trdp_filter.specs.declared.filters.MdFilter.{MdFilter}
use Rattle.trdp_filter.specs.Addresses.{in_source_range, is_destination}
use Rattle.trdp_filter.specs.Counts.{topo_valid}

-- the comId: none matches any, else it is the telegram's
-- rule: listener.comid
unfoldable pub is_com_id : Option ℕ → ℕ → Bool
is_com_id None com_id = true
is_com_id (Some wanted) com_id = wanted == com_id

-- the URI: an empty one matches any, else it is the telegram's
-- rule: listener.uri
unfoldable pub matches_uri : List ℕ → List ℕ → Bool
matches_uri wanted uri = bytes_eq wanted [] || bytes_eq wanted uri

-- receive filter: equal comId or any, source in range, destination address, destination URI, and
-- counters that match the filter's and the node's
-- rule: listener.filter
unfoldable pub md_passes : MdFilter → Place → Place → MdHead → Topo → Bool
md_passes filter src dst head node =
    is_com_id filter.com_id head.com_id && in_source_range filter.low filter.high src.ip
    && is_destination filter.dest dst.ip && matches_uri filter.uri head.dest_uri
    && topo_valid head.topo filter.topo && topo_valid head.topo node
