-- Ports, and those that a daemon takes datagrams from.
use Rattle.std.specs.Prelude.{ℕ, suc, ◌==◌, if◌then◌else◌, List, [], ◌∷◌, ◌++◌}
use Rattle.std.specs.Prelude.{map, Bool, true, false, slice_get, unwrap_or, nat_lt, ◌&&◌, not}
use Rattle.std.specs.Prelude.{◌+◌}
use Rattle.trdp_base.specs.declared.place.Place.{Place}
use Rattle.trdp_dataset.specs.Configs.{ConfigModel}
use Rattle.trdp_wire.specs.declared.port.Port.{Port}
use Rattle.trdp_wire.specs.declared.port.Port.TheVariants.{Pd, Md, PdGroup, MdGroup}
use Rattle.trdp_wire.specs.declared.port.Port.TheVariants.{Operator, Control}

-- whether two ports are the same
unfoldable pub is_port : Port → Port → Bool
is_port Pd Pd = true
is_port Md Md = true
is_port (PdGroup group) (PdGroup other) = group == other
is_port (MdGroup group) (MdGroup other) = group == other
is_port Operator Operator = true
is_port (Control slot) (Control other) = slot == other
is_port _ _ = false

-- what a port is for, as a number: process data, message data, the operator, a group, and then the
-- applications slot by slot
abbrev pub port_kind : Port → ℕ
port_kind Pd = 0
port_kind Md = 1
port_kind Operator = 2
port_kind (PdGroup group) = 3
port_kind (MdGroup group) = 3
port_kind (Control slot) = 4 + slot

-- whether a node may have such a port: it has at most 31 control ports
abbrev pub may_exist : Port → Bool
may_exist Pd = true
may_exist Md = true
may_exist Operator = true
may_exist (PdGroup group) = true
may_exist (MdGroup group) = true
may_exist (Control slot) = nat_lt slot 31

-- two ports that a node may have, and that are for different things
unfoldable pub are_apart : Port → Port → Bool
are_apart port other =
    may_exist port && (may_exist other && not (port_kind port == port_kind other))

-- a port; none where its number is 0
unfoldable pub port_unless_0 : ℕ → Port → List Port
port_unless_0 number port = if number == 0 then [] else port ∷ []

-- the control ports with these numbers of slots of which the first has the number s
unfoldable pub control_ports : ℕ → List ℕ → List Port
control_ports s [] = []
control_ports s (number ∷ numbers) =
    port_unless_0 number (Control s) ++ control_ports (suc s) numbers

-- the numbers of the slots' control ports, and after them the spare ones, which are for the slots
-- that are added
-- rule: slot.port
abbrev pub control_numbers : ConfigModel → List ℕ
control_numbers config =
    map (λ slot. slot.control_port) config.slots ++ config.spare_control_ports

-- the ports of these groups, in their order: of each that of process data and that of message data
abbrev pub group_ports : List ℕ → List Port
group_ports [] = []
group_ports (group ∷ groups) = PdGroup group ∷ MdGroup group ∷ group_ports groups

-- the ports at which telegrams come: process data and message data, at the node's address and then
-- at that of each group
abbrev pub network_ports : ConfigModel → List Port
network_ports config = Pd ∷ Md ∷ group_ports config.groups

-- the ports at which lines come: the operator's, and the control ports of the slots, also of those
-- that may be added; one whose number is 0 is passed over
abbrev pub line_ports : ConfigModel → List Port
line_ports config =
    port_unless_0 config.operator_port Operator ++ control_ports 0 (control_numbers config)

-- the ports of a daemon, in the order of a turn
unfoldable pub ports_of : ConfigModel → List Port
ports_of config = network_ports config ++ line_ports config

-- the socket address of a group's address and a port of that number
abbrev pub group_place : ℕ → ℕ → Place
group_place group port = record { ip = record { 0 = group }; port = port }

-- the same of the node's address, and of its control address
abbrev pub own_place : ConfigModel → ℕ → Place
own_place config port = record { ip = record { 0 = config.address }; port = port }

abbrev pub control_place : ConfigModel → ℕ → Place
control_place config port = record { ip = record { 0 = config.control_address }; port = port }

-- where the socket of a port is bound, and so where the datagrams go to that come there. Those of
-- process data and message data are at the node's address or at a group's, the others at its
-- control address; number 0 for a slot that the configuration names no control port for
abbrev pub place_of_port : ConfigModel → Port → Place
place_of_port config Pd = own_place config config.pd_port
place_of_port config Md = own_place config config.md_port
place_of_port config (PdGroup group) = group_place group config.pd_port
place_of_port config (MdGroup group) = group_place group config.md_port
place_of_port config Operator = control_place config config.operator_port
place_of_port config (Control slot) =
    control_place config (unwrap_or (slice_get (control_numbers config) slot) 0)
