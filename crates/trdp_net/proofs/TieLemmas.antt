-- The history is the run, and a node of the network moves as a node that steps.
-- For `history_is_the_run`, `nodes_move_so` and `step`.
-- By induction on the steps: one step adds one move at most, and no move changes a node's place.
use Rattle.std.proofs.Common.{◌≡◌, ℕ, zero, suc, ◌+◌, List, [], ◌∷◌, ◌++◌, length, Option, Some}
use Rattle.std.proofs.Common.{None, Bool, true, false, refl, ap, sym, ◌∙◌, subst, arith, inl, inr}
use Rattle.std.proofs.Common.{slice_get, append_assoc}
use Rattle.std.specs.Prelude.{◌⊎◌, if◌then◌else◌}
use Rattle.trdp_dataset.specs.Configs.{ConfigModel}
use Rattle.trdp_filter.specs.declared.globals.Globals.{Globals}
use Rattle.trdp_model.specs.declared.fault.NodeFault.{NodeFault}
use Rattle.trdp_model.specs.Configs.{NodeSetup, setup_of}
use Rattle.trdp_model.specs.Records.{Content, RecordModel, records_of}
use Rattle.trdp_model.specs.Events.{EventModel, MomentIs, TopologyIs, RoleIs, DatagramIs, CallIs}
use Rattle.trdp_model.specs.Events.{AddSlotIs}
use Rattle.trdp_model.specs.Slots.{SlotState, Outcome}
use Rattle.trdp_model.specs.Alone.{refused_as, globals_after, plain_effect, slot_after}
use Rattle.trdp_model.specs.Alone.{records_after, FaultIs, Standing, opened_by, standing_after}
use Rattle.std.specs.Prelude.{Result, Ok, Err, OnOk}
use Rattle.trdp_model.specs.NodeModels.{NodeModel, opened_model}
use Rattle.trdp_model.specs.NodeModels.{HasOutcome}
use Rattle.trdp_model.specs.declared.record.Protocol.TheVariants.{Md}
use Rattle.trdp_model.proofs.StepLemmas.{open_outcome}
use Rattle.trdp_model.proofs.AddedSlotLemmas.{lists_same, told_opened, opened_at as opens_at}
use Rattle.trdp_model.proofs.ViewLemmas.{standing_open, view_is_plain}
use Rattle.trdp_net.specs.Networks.{NetNode, net_node, place_of, Sent, Move, Network, Step, CallAt}
use Rattle.trdp_net.specs.Networks.{MomentAt, TopologyAt, RoleAt, DeliveryAt, AddSlotAt}
use Rattle.trdp_net.specs.Networks.{plain_node, moves, moves_unless, moves_at, reaches, delivered}
use Rattle.trdp_net.specs.Networks.{network_step, network_run, opened_network, plain_slots}
use Rattle.trdp_net.specs.Provenance.{Always, In}
use Rattle.trdp_net.specs.Ties.{IsStep, IsAtHome, HaveOwnPlaces, StepsSo, MovesSo}
use Rattle.trdp_net.proofs.PartLemmas.{set_get}

run_append : (w : Network) (xs ys : List Step)
    → network_run w (xs ++ ys) ≡ network_run (network_run w xs) ys
run_append w [] ys = refl
run_append w (x ∷ xs) ys = run_append (network_step w x) xs ys

-- one step adds one move at most
pub record Grows (w new : Network) : Type 0 where
  pub m : Move
  pub history : new.history ≡ m ∷ w.history
  pub node_is : slice_get w.nodes m.node ≡ Some m.before
  pub moved : new ≡ moves w m.node m.before m.event

-- the history may have grown
abbrev pub MayGrow : Network → Network → Type 0
MayGrow w new = (new ≡ w) ⊎ Grows w new

unless_grows : (w : Network) (k : ℕ) (fault : Option NodeFault) (node : NetNode)
    (event : EventModel) → slice_get w.nodes k ≡ Some node
    → MayGrow w (moves_unless fault w k node event)
unless_grows w k (Some fault) node event is = inl refl
unless_grows w k None node event is = inr (record {
  m = record { node = k; before = node; event = event };
  history = refl;
  node_is = is;
  moved = refl;
})

at_grows : (w : Network) (k : ℕ) (found : Option NetNode) (event : EventModel)
    → slice_get w.nodes k ≡ found → MayGrow w (moves_at w k found event)
at_grows w k None event is = inl refl
at_grows w k (Some node) event is =
    unless_grows w k (refused_as (length node.slots) node.globals event) node event is

delivery_grows : (w : Network) (k : ℕ) (found : Option NetNode) (x : Option Sent)
    → slice_get w.nodes k ≡ found → MayGrow w (delivered w k found x)
delivery_grows w k None x is = inl refl
delivery_grows w k (Some node) None is = inl refl
delivery_grows w k (Some node) (Some x) is =
    either (reaches x.to (place_of x.protocol node.setup))
  where
    either : (b : Bool) → MayGrow w
        (if b then moves_at w k (Some node) (DatagramIs x.protocol x.from x.to x.bytes) else w)
    either true = at_grows w k (Some node) (DatagramIs x.protocol x.from x.to x.bytes) is
    either false = inl refl

step_grows : (w : Network) (step : Step) → MayGrow w (network_step w step)
step_grows w (CallAt k s call) = at_grows w k (slice_get w.nodes k) (CallIs s call) refl
step_grows w (MomentAt k t) = at_grows w k (slice_get w.nodes k) (MomentIs t) refl
step_grows w (TopologyAt k topo) = at_grows w k (slice_get w.nodes k) (TopologyIs topo) refl
step_grows w (RoleAt k group leader) =
    at_grows w k (slice_get w.nodes k) (RoleIs group leader) refl
step_grows w (AddSlotAt k quotas) =
    at_grows w k (slice_get w.nodes k) (AddSlotIs quotas) refl
step_grows w (DeliveryAt k which) =
    delivery_grows w k (slice_get w.nodes k) (slice_get w.sent which) refl

so_far : (w : Network) (steps before after : List Step) → steps ≡ before ++ after
    → Always (IsStep w steps) (network_run w before).history
    → Always (IsStep w steps) (network_run (network_run w before) after).history
so_far w steps before [] split known = known
so_far w steps before (step ∷ after) split known =
    let here : network_run w (before ++ step ∷ []) ≡ network_step (network_run w before) step =
    run_append w before (step ∷ []) in
    let split_later : steps ≡ (before ++ step ∷ []) ++ after =
    split ∙ sym (append_assoc before (step ∷ []) after) in
    let known_later : Always (IsStep w steps) (network_step (network_run w before) step).history =
    grown (network_step (network_run w before) step) refl (step_grows (network_run w before) step)
    in
    let next = so_far w steps (before ++ step ∷ []) after split_later
    (subst (λ (x : Network). Always (IsStep w steps) x.history) (sym here) known_later) in
    subst (λ (x : Network). Always (IsStep w steps) (network_run x after).history) here next
  where
    grown : (new : Network) → network_step (network_run w before) step ≡ new
        → MayGrow (network_run w before) new → Always (IsStep w steps) new.history
    grown new is (inl same) =
        subst (λ (x : Network). Always (IsStep w steps) x.history) (sym same) known
    grown new is (inr g) =
        subst (λ (h : List Move). Always (IsStep w steps) h) (sym g.history) (
          record {
            before = before;
            step = step;
            after = after;
            split = split;
            past_is = refl;
            node_is = g.node_is;
            moved = is ∙ g.moved;
          },
          known,
        )

-- each move of the history is a step of the run
pub history_is_run : (configs : List ConfigModel) (steps : List Step)
    → Always (IsStep (opened_network configs) steps)
    (network_run (opened_network configs) steps).history
history_is_run configs steps = so_far (opened_network configs) steps [] steps refl tt

-- no node changes its place
abbrev AtHome : Network → Network → Type 0
AtHome w v = (k : ℕ) (node : NetNode) → slice_get v.nodes k ≡ Some node
    → (first : NetNode) × (slice_get w.nodes k ≡ Some first) × (node.setup ≡ first.setup)

-- the nodes are at home, and were at each move
pub record HomeKept (w v : Network) : Type 0 where
  pub nodes : AtHome w v
  pub always : Always (IsAtHome w) v.history

home_step : (w v new : Network) → MayGrow v new → HomeKept w v → HomeKept w new
home_step w v new (inl same) h = subst (λ (x : Network). HomeKept w x) (sym same) h
home_step w v new (inr g) h =
    subst (λ (x : Network). HomeKept w x) (sym g.moved) (record {
      nodes = λ k node at. here k node
          (set_get v.nodes g.m.node (plain_node g.m.before g.m.event) k node at);
      always = (home, h.always);
    })
  where
    was : (first : NetNode) × (slice_get w.nodes g.m.node ≡ Some first)
        × (g.m.before.setup ≡ first.setup)
    was = h.nodes g.m.node g.m.before g.node_is

    home : IsAtHome w g.m v.history
    home = record { node = was.0; node_is = was.1; setup_is = was.2 }

    here : (k : ℕ) (node : NetNode)
        → ((k ≡ g.m.node) × (plain_node g.m.before g.m.event ≡ node))
        ⊎ (slice_get v.nodes k ≡ Some node)
        → (first : NetNode) × (slice_get w.nodes k ≡ Some first) × (node.setup ≡ first.setup)
    here k node (inr before) = h.nodes k node before
    here k node (inl same) = (
      was.0,
      subst (λ (n : ℕ). slice_get w.nodes n ≡ Some was.0) (sym same.0) was.1,
      subst (λ (x : NetNode). x.setup ≡ was.0.setup) same.1 was.2,
    )

home_run : (w v : Network) (steps : List Step) → HomeKept w v → HomeKept w (network_run v steps)
home_run w v [] h = h
home_run w v (step ∷ steps) h =
    home_run w (network_step v step) steps
    (home_step w v (network_step v step) (step_grows v step) h)

-- no node changes its place
pub nodes_stay : (configs : List ConfigModel) (steps : List Step)
    → Always (IsAtHome (opened_network configs)) (network_run
    (opened_network configs) steps).history
nodes_stay configs steps =
    (home_run (opened_network configs) (opened_network configs) steps
    (record { nodes = λ k node at. (node, at, refl); always = tt })).always

-- a node that was opened is the one of its configuration
opened_at : (configs : List ConfigModel) (k : ℕ) (node : NetNode)
    → slice_get (opened_network configs).nodes k ≡ Some node
    → (config : ConfigModel) × (slice_get configs k ≡ Some config)
    × (node.setup ≡ setup_of config)
opened_at [] k node is = absurd (cc)
opened_at (config ∷ configs) zero node is =
    let same : net_node (opened_model config) ≡ node = cc is in
    (config, refl, ap (λ (x : NetNode). x.setup) (sym same))
opened_at (config ∷ configs) (suc k) node is = opened_at configs k node is

always_in : (P : Move → List Move → Type 0) (Q : Move → Type 0)
    → ((m : Move) (past : List Move) → P m past → Q m) → (h : List Move) (m : Move)
    → Always P h → In m h → Q m
always_in P Q f [] m all is = absurd is
always_in P Q f (n ∷ past) m all (inl same) = subst (λ (x : Move). Q x) same (f n past all.0)
always_in P Q f (n ∷ past) m all (inr is) = always_in P Q f past m all.1 is

-- a configuration of the number of a move's node
abbrev Configured : List ConfigModel → Move → Type 0
Configured configs m =
    (config : ConfigModel) × (slice_get configs m.node ≡ Some config)
    × (m.before.setup ≡ setup_of config)

configured : (configs : List ConfigModel) (m : Move) (past : List Move)
    → IsAtHome (opened_network configs) m past → Configured configs m
configured configs m past home =
    let found = opened_at configs m.node home.node home.node_is in
    (found.0, found.1, home.setup_is ∙ found.2)

-- the node of a place is one node
pub one_node : (configs : List ConfigModel) (steps : List Step) → HaveOwnPlaces configs
    → (m n : Move) → In m (network_run (opened_network configs) steps).history
    → In n (network_run (opened_network configs) steps).history
    → place_of Md m.before.setup ≡ place_of Md n.before.setup → m.node ≡ n.node
one_node configs steps own m n is_m is_n same =
    let at_m : Configured configs m =
    always_in (IsAtHome (opened_network configs)) (Configured configs) (configured configs)
    (network_run (opened_network configs) steps).history m (nodes_stay configs steps) is_m in
    let at_n : Configured configs n =
    always_in (IsAtHome (opened_network configs)) (Configured configs) (configured configs)
    (network_run (opened_network configs) steps).history n (nodes_stay configs steps) is_n in
    own m.node n.node at_m.0 at_n.0 at_m.1 at_n.1
    (sym (ap (place_of Md) at_m.2) ∙ (same ∙ ap (place_of Md) at_n.2))

-- what each number has after an event that the node accepts
after_at : (setup : NodeSetup) (globals : Globals) (event : EventModel) (n k : ℕ)
    (old : List SlotState) → n ≡ k + length old → refused_as n globals event ≡ None
    → (j s : ℕ) → s ≡ k + j
    → slice_get (plain_slots setup globals event k old ++ opened_by event) j
    ≡ (standing_after setup s n (slice_get old j) globals event).slot
after_at setup globals event n k [] count admitted j s is =
    let same : s ≡ n + j = omega (arith, count, is) in
    subst
    (λ (i : ℕ). slice_get (opened_by event) j
    ≡ (standing_after setup i n None globals event).slot)
    (sym same) (opens_at setup n globals event admitted j)
after_at setup globals event n k (x ∷ old) count admitted zero s is =
    let same : s ≡ k = omega (arith, is) in
    subst
    (λ (i : ℕ). Some (plain_effect setup k x globals event).slot
    ≡ (standing_after setup i n (Some x) globals event).slot)
    (sym same)
    (ap (λ (o : Outcome). Some o.slot) (view_is_plain setup k n x globals event admitted)
    ∙ sym (ap (λ (there : Standing). there.slot) (standing_open setup k n x globals event)))
after_at setup globals event n k (x ∷ old) count admitted (suc j) s is =
    after_at setup globals event n (suc k) old (omega (arith, count)) admitted j s
    (omega (arith, is))

-- a node that steps as each number alone moves as one of the network
pub moves_so : (old new : NodeModel) (records records_then : List RecordModel)
    (event : EventModel) → StepsSo old new records records_then event
    → MovesSo old new records records_then event
moves_so old new records records_then event h = record {
  node =
      nodes (setup_of new.config) (setup_of old.config) new.globals
      (globals_after old.globals event) new.slots
      (plain_slots (setup_of old.config) old.globals event zero old.slots ++ opened_by event)
      (ap setup_of h.config) h.globals
      (lists_same new.slots _ (λ j. (h.slots j).slot_is
      ∙ sym (after_at (setup_of old.config) old.globals event (length old.slots) zero old.slots
      (omega arith) h.admitted j j (omega arith))));
  told = λ s slot is. (outcome s slot is).records_are
      ∙ ap (λ (o : Outcome). records_of s records ++ o.records) (sym (plain s slot));
  opened = λ s none. (h.slots s).records_are
      ∙ rw none
      (ap (λ (cs : List Content). records_of s records ++ cs)
      (told_opened (setup_of old.config) s (length old.slots) old.globals event h.admitted));
}
  where
    plain : (s : ℕ) (slot : SlotState)
        → plain_effect (setup_of old.config) s slot old.globals event
        ≡ record {
          slot = slot_after (setup_of old.config) s slot old.globals event;
          records = records_after (setup_of old.config) s slot old.globals event;
        }
    plain s slot =
        view_is_plain (setup_of old.config) s (length old.slots) slot old.globals event h.admitted

    outcome : (s : ℕ) (slot : SlotState) → slice_get old.slots s ≡ Some slot
        → HasOutcome new.slots records records_then s (record {
          slot = slot_after (setup_of old.config) s slot old.globals event;
          records = records_after (setup_of old.config) s slot old.globals event;
        })
    outcome s slot is =
        open_outcome old new records records_then event s slot is (h.slots s)

    nodes : (c d : NodeSetup) (g i : Globals) (xs ys : List SlotState) → c ≡ d → g ≡ i → xs ≡ ys
        → (let r : NetNode = record { setup = c; globals = g; slots = xs } in r)
        ≡ record { setup = d; globals = i; slots = ys }
    nodes c d g i xs ys cd gi xy = cc

-- what is known of an event that was accepted
pub admits : (result : Result (Unit {0}) NodeFault) (fault : Option NodeFault) (G S M : Type 0)
    → FaultIs fault result → OnOk result G → OnOk result S → (fault ≡ None → G → S → M)
    → OnOk result M
admits (Ok done) None G S M is g s known = known refl g s
admits (Ok done) (Some fault) G S M is g s known = absurd is
admits (Err other) fault G S M is g s known = tt
