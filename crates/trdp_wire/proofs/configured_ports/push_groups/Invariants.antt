use Rattle.std.proofs.Common.{◌≡◌, ◌++◌, drop}
use Rattle.trdp_wire.specs.Ports.{group_ports}
use Rattle.trdp_wire.proofs.configured_ports.push_groups.Given as goal

-- the ports so far and those of the groups to come are all
abbrev pub invariant-loop-group : goal.invariant-loop-group
invariant-loop-group l =
    l.ports.items ++ group_ports (drop l.group-index l.groups)
    ≡ l.fn.ports.items ++ group_ports l.groups
