-- Where its slots are open, each port of a configuration is taken from.
-- For `each_port_is_taken_from`.
-- By induction on the ports: each slot that was open stays so, so that its port is there.
use Rattle.std.proofs.Common.{◌≡◌, suc, ◌+◌, ◌<◌, ◌≤◌, ℕ, Bool, true, false, List, [], ◌∷◌, ◌++◌}
use Rattle.std.proofs.Common.{refl, ◌∙◌, ap, subst, arith, length, map, if◌then◌else◌, Option}
use Rattle.std.specs.Prelude.{◌==◌, All}
use Rattle.std.proofs.lemmas.Bool.{lt-ltb}
use Rattle.std.proofs.lemmas.Bool.Decides.{nat_tests}
use Rattle.std.proofs.lemmas.List.{length-map}
use Rattle.std.proofs.lemmas.List.Elements.{All-cons, All-nil}
use Rattle.trdp_dataset.specs.Configs.{ConfigModel}
use Rattle.trdp_model.specs.NodeModels.{NodeModel}
use Rattle.trdp_model.specs.Slots.{empty_slot}
use Rattle.trdp_wire.specs.declared.port.Port.{Port}
use Rattle.trdp_wire.specs.declared.port.Port.TheVariants.{Pd, Md, PdGroup, MdGroup}
use Rattle.trdp_wire.specs.declared.port.Port.TheVariants.{Operator, Control}
use Rattle.trdp_daemon.specs.Effects.{ServiceState}
use Rattle.trdp_wire.specs.Ports.{port_unless_0, control_numbers, control_ports, ports_of}
use Rattle.trdp_wire.specs.Ports.{group_ports, line_ports, network_ports}
use Rattle.trdp_daemon.specs.Turns.{Visit, visit_effect, Turn, turn_effect, moment_effect, is_there}
use Rattle.trdp_daemon.specs.Turns.{port_and_room, with_room, TakesFirst, TakesAt, TakesAtEach}
use Rattle.trdp_daemon.specs.Turns.{AllTakeAt, opened_service}
use Rattle.trdp_wire.proofs.ControlPortLemmas.{numbers_count}
use Rattle.trdp_daemon.proofs.OpenSlotLemmas.{visit_keeps, moment_keeps, turn_keeps}

-- each of these ports is there
abbrev AllThere : NodeModel → List Port → Type 0
AllThere node [] = Unit {0}
AllThere node (port ∷ ports) = (is_there node port ≡ true) × AllThere node ports

-- a node with more slots has the same ports
there_kept : (old new : NodeModel) (port : Port) → length old.slots ≤ length new.slots
    → is_there old port ≡ true → is_there new port ≡ true
there_kept old new Pd same there = refl
there_kept old new Md same there = refl
there_kept old new (PdGroup group) same there = refl
there_kept old new (MdGroup group) same there = refl
there_kept old new Operator same there = refl
there_kept old new (Control slot) more there = grind (arith, nat_tests)

all_kept : (old new : NodeModel) (ports : List Port) → length old.slots ≤ length new.slots
    → AllThere old ports → AllThere new ports
all_kept old new [] same there = tt
all_kept old new (port ∷ ports) same (here, there) =
    (there_kept old new port same here, all_kept old new ports same there)

both_there : (node : NodeModel) (ps qs : List Port) → AllThere node ps → AllThere node qs
    → AllThere node (ps ++ qs)
both_there node [] qs first others = others
both_there node (p ∷ ps) qs (here, first) others = (here, both_there node ps qs first others)

-- one take at a port, and then these
takes_next : (port : Port) (ports : List Port) (s : ServiceState) (visits : List Visit)
    → ((t : ServiceState) (later : List Visit) → length s.node.slots ≤ length t.node.slots
    → TakesAt ports t later → map port_and_room later ≡ map with_room ports)
    → TakesFirst true port (TakesAt ports) s visits
    → map port_and_room visits ≡ with_room port ∷ map with_room ports
takes_next port ports s [] later takes = absurd takes
takes_next port ports s (visit ∷ visits) later (here, takes) =
    ap (λ first. first ∷ map port_and_room visits) here
    ∙ ap (λ rest. with_room port ∷ rest)
    (later (visit_effect s visit).service visits (visit_keeps s visit) takes)

takes_each : (ports : List Port) (s : ServiceState) (visits : List Visit) → AllThere s.node ports
    → TakesAt ports s visits → map port_and_room visits ≡ map with_room ports
takes_each [] s visits there none = ap (map port_and_room) none
takes_each (port ∷ ports) s visits (here, there) takes = takes_next port ports s visits
    (λ t later same rest. takes_each ports t later (all_kept s.node t.node ports same there) rest)
    (subst (λ (is : Bool). TakesFirst is port (TakesAt ports) s visits) here takes)

unless_there : (node : NodeModel) (number : ℕ) (port : Port) → is_there node port ≡ true
    → AllThere node (port_unless_0 number port)
unfolding port_unless_0
unless_there node number port there = by_test (number == 0)
  where
    by_test : (none : Bool) → AllThere node (if none then [] else port ∷ [])
    by_test true = tt
    by_test false = (there, tt)

-- below the number of slots each control port is there
controls_there : (node : NodeModel) (s : ℕ) (numbers : List ℕ)
    → s + length numbers ≤ length node.slots → AllThere node (control_ports s numbers)
unfolding control_ports
controls_there node s [] within = tt
controls_there node s (number ∷ numbers) within =
    let below : s < length node.slots = omega (arith, within) in
    let fewer : suc s + length numbers ≤ length node.slots = omega (arith, within) in
    both_there node (port_unless_0 number (Control s)) (control_ports (suc s) numbers)
    (unless_there node number (Control s) (lt-ltb s (length node.slots) below))
    (controls_there node (suc s) numbers fewer)

-- and each of a group
groups_there : (node : NodeModel) (groups : List ℕ) → AllThere node (group_ports groups)
groups_there node [] = tt
groups_there node (group ∷ groups) = (refl, (refl, groups_there node groups))

ports_there : (config : ConfigModel) (node : NodeModel)
    → length (control_numbers config) ≤ length node.slots → AllThere node (ports_of config)
unfolding ports_of
ports_there config node enough =
    let within : 0 + length (control_numbers config) ≤ length node.slots =
    omega (arith, enough) in
    both_there node (network_ports config) (line_ports config)
    (refl, (refl, groups_there node config.groups))
    (both_there node (port_unless_0 config.operator_port Operator)
    (control_ports 0 (control_numbers config))
    (unless_there node config.operator_port Operator refl)
    (controls_there node 0 (control_numbers config) within))

pub turns_take_each : (config : ConfigModel) (s : ServiceState) (turns : List Turn)
    → length (control_numbers config) ≤ length s.node.slots → AllTakeAt (ports_of config) s turns
    → All (TakesAtEach (ports_of config)) turns
turns_take_each config s [] enough takes = All-nil (TakesAtEach (ports_of config))
turns_take_each config s (turn ∷ turns) enough (here, takes) =
    let behind = (moment_effect s turn).service in
    let same : length s.node.slots ≤ length behind.node.slots = moment_keeps s turn in
    let later = (turn_effect s turn).service in
    let as_many : length s.node.slots ≤ length later.node.slots = turn_keeps s turn in
    All-cons (TakesAtEach (ports_of config)) turn turns
    (takes_each (ports_of config) behind turn.visits
    (ports_there config behind.node (omega (arith, enough, same))) here)
    (turns_take_each config later turns (omega (arith, enough, as_many)) takes)

-- a node that was just opened has each slot of its configuration
pub all_open : (config : ConfigModel) (lease : Option ℕ) → config.spare_control_ports ≡ []
    → length (control_numbers config) ≤ length (opened_service config lease).node.slots
all_open config lease none =
    omega (
      arith,
      length-map config.slots (λ slot. empty_slot slot.quotas),
      numbers_count config.slots config.spare_control_ports,
      ap (λ (l : List ℕ). length l) none,
    )
