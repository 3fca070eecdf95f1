-- A running network takes the steps of the network that it shows.
-- For `Station::take`, `deliver_at`, `Network::take_any`, `deliver` and `faults_change_nothing`.
-- Node by node: the one of the step moves so, the others stay, and what was sent grows at its end.
use Rattle.std.proofs.Common.{◌≡◌, ℕ, zero, List, [], ◌∷◌, ◌++◌, length, Option, Some, None}
use Rattle.std.proofs.Common.{Bool, true, false, refl, ap, sym, ◌∙◌, subst, slice_get, ◌+◌, arith}
use Rattle.std.specs.Prelude.{◌==◌, if◌then◌else◌, slice_set, Result, Ok, Err, IfOk}
use Rattle.trdp_net.specs.declared.fault.NetworkFault.{NetworkFault}
use Rattle.trdp_model.specs.declared.fault.NodeFault.{NodeFault}
use Rattle.trdp_model.specs.Configs.{setup_of}
use Rattle.trdp_model.specs.Records.{RecordModel, records_of}
use Rattle.trdp_model.specs.Slots.{SlotState}
use Rattle.trdp_model.specs.Alone.{refused_as, plain_effect, told_opening, FaultIs}
use Rattle.trdp_model.specs.NodeModels.{NodeModel}
use Rattle.trdp_model.specs.Events.{EventModel, MomentIs, TopologyIs, RoleIs, DatagramIs, CallIs}
use Rattle.trdp_model.specs.Events.{AddSlotIs}
use Rattle.trdp_net.specs.Networks.{NetNode, net_node, Sent, Network, Step, CallAt, MomentAt}
use Rattle.trdp_net.specs.Networks.{TopologyAt, RoleAt, DeliveryAt, AddSlotAt, place_of}
use Rattle.trdp_net.specs.Networks.{moves_unless, moves_at, reaches, delivered, network_step}
use Rattle.trdp_net.specs.Running.{NetworkState, Shows, TakesEvent, TakesEventAt, DeliversAt}
use Rattle.trdp_net.specs.Running.{TellsLatest}
use Rattle.trdp_net.specs.Running.{event_fault, node_fault, delivery_fault, step_fault}
use Rattle.trdp_net.specs.Running.{told_at}
use Rattle.trdp_net.specs.Ties.{StepsSo, MovesSo}
use Rattle.trdp_net.specs.Tellings.{IsOwnHome, sent_in, sent_in_slots, all_sent, latest}
use Rattle.trdp_net.specs.declared.fault.NetworkFault.TheVariants.{Elsewhere}
use Rattle.trdp_net.specs.declared.told.Told.{Told}
use Rattle.trdp_net.proofs.TieLemmas.{moves_so}
use Rattle.trdp_net.proofs.TellingLemmas.{slots_sent, all_sent_push, latest_push}

-- an event that was accepted has no fault
pub admitted_by : (fault : Option NodeFault) (done : Unit {0}) → FaultIs fault (Ok done)
    → fault ≡ None
admitted_by None done is = refl
admitted_by (Some fault) done is = absurd is

-- a node that steps accepts the event as one of the network, and reports the same
pub takes : (old new : NodeModel) (before : List RecordModel) (event : EventModel) (told : Told)
    → StepsSo old new before told.out.records event
    → before ≡ []
    → IsOwnHome told.home (setup_of old.config) → told.slots ≡ length old.slots
    → TakesEvent (net_node old) (net_node new) event told
takes old new before event told steps none home slots = record {
  admitted = steps.admitted;
  node = moved.node;
  sent = ap (sent_in_slots told.home told.out.records zero) slots
      ∙ slots_sent told.home (setup_of old.config) old.globals event told.out.records home zero
      old.slots from_zero;
  telling = λ k s. telling k s (slice_get old.slots s) refl;
}
  where
    moved : MovesSo old new before told.out.records event
    moved = moves_so old new before told.out.records event steps

    each : (s : ℕ) (slot : SlotState) → slice_get old.slots s ≡ Some slot
        → records_of s told.out.records
        ≡ (plain_effect (setup_of old.config) s slot old.globals event).records
    each s slot at =
        moved.told s slot at
        ∙ ap (λ (xs : List RecordModel). records_of s xs
        ++ (plain_effect (setup_of old.config) s slot old.globals event).records) none

    from_zero : (j : ℕ) (slot : SlotState) → slice_get old.slots j ≡ Some slot
        → records_of (zero + j) told.out.records
        ≡ (plain_effect (setup_of old.config) (zero + j) slot old.globals event).records
    from_zero j slot at =
        let e : j ≡ zero + j = omega arith in
        subst
        (λ (i : ℕ). records_of i told.out.records
        ≡ (plain_effect (setup_of old.config) i slot old.globals event).records)
        e (each j slot at)

    telling : (k s : ℕ) (found : Option SlotState) → slice_get old.slots s ≡ found
        → records_of s told.out.records
        ≡ told_at s (record { node = k; before = net_node old; event = event }) found
    telling k s None at =
        moved.opened s at
        ∙ ap (λ (xs : List RecordModel). records_of s xs
        ++ (if s == length old.slots then told_opening event else [])) none
    telling k s (Some slot) at = each s slot at

-- what a running network shows once a node has accepted an event
abbrev pub then_shown : NetworkState → List NetNode → Told → NetworkState
then_shown old nodes told = record {
  nodes = nodes;
  sent = old.sent ++ sent_in told;
  told = told.out.records;
}

-- the node of that number is the same in the network that is shown
node_at : (old : NetworkState) (w : Network) (k : ℕ) (node : NetNode) → Shows old w
    → slice_get old.nodes k ≡ Some node → slice_get w.nodes k ≡ Some node
node_at old w k node shows at =
    ap (λ (xs : List NetNode). slice_get xs k) (sym shows.nodes) ∙ at

-- the network that is shown moves as the running one
pub shows_move : (old : NetworkState) (nodes : List NetNode) (k : ℕ) (event : EventModel)
    (told : Told) → TakesEventAt old.nodes nodes k event told → (w : Network) → Shows old w
    → Shows (then_shown old nodes told) (moves_at w k (slice_get w.nodes k) event)
shows_move old nodes k event told t w shows =
    subst (λ (found : Option NetNode).
    Shows (then_shown old nodes told) (moves_at w k found event))
    (sym (node_at old w k t.before shows t.before_is))
    (unless (refused_as (length t.before.slots) t.before.globals event) t.takes.admitted)
  where
    unless : (fault : Option NodeFault) → fault ≡ None
        → Shows (then_shown old nodes told) (moves_unless fault w k t.before event)
    unless (Some fault) is = absurd (cc is)
    unless None is = record {
      nodes = t.nodes
          ∙ (ap (λ (xs : List NetNode). slice_set xs k t.after) shows.nodes
          ∙ ap (slice_set w.nodes k) t.takes.node);
      sent = ap (λ (xs : List Sent). xs ++ sent_in told) shows.sent
          ∙ ap (λ (xs : List Sent). w.sent ++ xs) t.takes.sent;
      told = t.takes.telling k;
    }

-- the same of a delivery
pub shows_delivery : (old : NetworkState) (nodes : List NetNode) (k which : ℕ) (told : Told)
    → DeliversAt old.nodes nodes k (slice_get old.sent which) told → (w : Network)
    → Shows old w
    → Shows (then_shown old nodes told)
    (delivered w k (slice_get w.nodes k) (slice_get w.sent which))
shows_delivery old nodes k which told d w shows =
    subst (λ (x : Option Sent). Shows (then_shown old nodes told)
    (delivered w k (slice_get w.nodes k) x)) (sym here)
    (subst (λ (found : Option NetNode). Shows (then_shown old nodes told)
    (delivered w k found (Some d.x))) (sym there)
    (reached (reaches d.x.to (place_of d.x.protocol d.takes.before.setup)) d.reached))
  where
    here : slice_get w.sent which ≡ Some d.x
    here = ap (λ (xs : List Sent). slice_get xs which) (sym shows.sent) ∙ d.x_is

    there : slice_get w.nodes k ≡ Some d.takes.before
    there = node_at old w k d.takes.before shows d.takes.before_is

    event : EventModel
    event = DatagramIs d.x.protocol d.x.from d.x.to d.x.bytes

    reached : (b : Bool) → b ≡ true
        → Shows (then_shown old nodes told)
        (if b then moves_at w k (Some d.takes.before) event else w)
    reached false is = absurd (cc is)
    reached true is =
        subst (λ (found : Option NetNode).
        Shows (then_shown old nodes told) (moves_at w k found event)) there
        (shows_move old nodes k event told d.takes w shows)

-- what the events show with one more
pub pushed : (old : NetworkState) (nodes : List NetNode) (events events_then : List Told)
    (told : Told)
    (w : Network) → events_then ≡ events ++ told ∷ [] → old.sent ≡ all_sent events
    → Shows (then_shown old nodes told) w
    → Shows (record { nodes = nodes; sent = all_sent events_then; told = latest events_then }) w
pushed old nodes events events_then told w is same shows = record {
  nodes = shows.nodes;
  sent = ap all_sent is
      ∙ (all_sent_push events told
      ∙ (ap (λ (xs : List Sent). xs ++ sent_in told) (sym same) ∙ shows.sent));
  told = subst (λ (records : List RecordModel). TellsLatest w.history records)
      (sym (ap latest is ∙ latest_push events told)) shows.told;
}

-- a telegram that the node accepts, and that reaches it, is delivered
pub delivers_so : (result : Result Told NetworkFault) (old new : List NetNode) (k : ℕ) (x : Sent)
    (seen : NetNode) → slice_get old k ≡ Some seen
    → reaches x.to (place_of x.protocol seen.setup) ≡ true
    → IfOk result (λ told.
    TakesEventAt old new k (DatagramIs x.protocol x.from x.to x.bytes) told)
    → IfOk result (λ told. DeliversAt old new k (Some x) told)
delivers_so (Err fault) old new k x seen at reached taken = tt
delivers_so (Ok told) old new k x seen at reached taken =
    let same : Some seen ≡ Some taken.before = sym at ∙ taken.before_is in
    let e : seen ≡ taken.before = cc same in
    record {
      x = x;
      x_is = refl;
      takes = taken;
      reached = subst (λ (node : NetNode). reaches x.to (place_of x.protocol node.setup) ≡ true)
          e reached;
    }

-- an event that a node rejects changes nothing
unless_kept : (refusal : Option NodeFault) (w : Network) (k : ℕ) (node : NetNode)
    (event : EventModel) (fault : NetworkFault) → node_fault refusal ≡ Some fault
    → moves_unless refusal w k node event ≡ w
unless_kept None w k node event fault is = absurd (cc is)
unless_kept (Some refusal) w k node event fault is = refl

at_kept : (w : Network) (k : ℕ) (found : Option NetNode) (event : EventModel)
    (fault : NetworkFault) → event_fault found event ≡ Some fault
    → moves_at w k found event ≡ w
at_kept w k None event fault is = refl
at_kept w k (Some node) event fault is =
    unless_kept (refused_as (length node.slots) node.globals event) w k node event fault is

-- the same of a delivery
delivery_kept : (w : Network) (k : ℕ) (found : Option NetNode) (x : Option Sent)
    (fault : NetworkFault) → delivery_fault found x ≡ Some fault → delivered w k found x ≡ w
delivery_kept w k None x fault is = refl
delivery_kept w k (Some node) None fault is = refl
delivery_kept w k (Some node) (Some x) fault is =
    either (reaches x.to (place_of x.protocol node.setup)) is
  where
    event : EventModel
    event = DatagramIs x.protocol x.from x.to x.bytes

    either : (b : Bool)
        → (if b then event_fault (Some node) event else Some Elsewhere) ≡ Some fault
        → (if b then moves_at w k (Some node) event else w) ≡ w
    either true here = at_kept w k (Some node) event fault here
    either false here = refl

own_kept : (old : NetworkState) (w : Network) (k : ℕ) (event : EventModel)
    (fault : NetworkFault) → Shows old w
    → event_fault (slice_get old.nodes k) event ≡ Some fault
    → moves_at w k (slice_get w.nodes k) event ≡ w
own_kept old w k event fault shows is =
    at_kept w k (slice_get w.nodes k) event fault
    (ap (λ (nodes : List NetNode). event_fault (slice_get nodes k) event) (sym shows.nodes) ∙ is)

-- a step with a fault changes nothing
pub step_kept : (old : NetworkState) (w : Network) (step : Step) (fault : NetworkFault)
    → Shows old w → step_fault old step ≡ Some fault → network_step w step ≡ w
step_kept old w (CallAt k s call) fault shows is =
    own_kept old w k (CallIs s call) fault shows is
step_kept old w (MomentAt k t) fault shows is = own_kept old w k (MomentIs t) fault shows is
step_kept old w (TopologyAt k topo) fault shows is =
    own_kept old w k (TopologyIs topo) fault shows is
step_kept old w (RoleAt k group leader) fault shows is =
    own_kept old w k (RoleIs group leader) fault shows is
step_kept old w (AddSlotAt k quotas) fault shows is =
    own_kept old w k (AddSlotIs quotas) fault shows is
step_kept old w (DeliveryAt k which) fault shows is =
    delivery_kept w k (slice_get w.nodes k) (slice_get w.sent which) fault
    (ap (λ (nodes : List NetNode). delivery_fault (slice_get nodes k) (slice_get w.sent which))
    (sym shows.nodes)
    ∙ (ap (λ (sent : List Sent). delivery_fault (slice_get old.nodes k) (slice_get sent which))
    (sym shows.sent) ∙ is))
