use Rattle.std.proofs.Common.{◌≡◌, ◌++◌, drop}
use Rattle.trdp_wire.specs.Ports.{control_numbers, control_ports, ports_of}
use Rattle.trdp_wire.proofs.configured_ports.ports_of.Given as goal

-- the ports so far and those of the slots to come are all
abbrev pub invariant-loop-slot : goal.invariant-loop-slot
invariant-loop-slot l =
    l.ports.items ++ control_ports l.slot (drop l.slot (control_numbers l.config))
    ≡ ports_of l.config
