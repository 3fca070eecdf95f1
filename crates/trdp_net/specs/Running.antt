-- Running nodes, and the network of the promises that they show.
use Rattle.std.specs.Prelude.{◌≡◌, ◌⊎◌, ℕ, zero, List, [], ◌∷◌, length, Option, Some, None}
use Rattle.std.specs.Prelude.{slice_get, slice_set, ◌==◌, if◌then◌else◌, Bool, true, false}
use Rattle.std.specs.Prelude.{Result, Ok, Err}
use Rattle.trdp_model.specs.declared.fault.NodeFault.{NodeFault}
use Rattle.trdp_model.specs.declared.fault.NodeFault.TheVariants.{OutOfMemory}
use Rattle.trdp_model.specs.Records.{Content, RecordModel, records_of}
use Rattle.trdp_model.specs.Slots.{SlotState}
use Rattle.trdp_model.specs.Events.{EventModel, MomentIs, TopologyIs, RoleIs, DatagramIs, CallIs}
use Rattle.trdp_model.specs.Events.{AddSlotIs}
use Rattle.trdp_model.specs.Alone.{refused_as, told_opening}
use Rattle.trdp_net.specs.Networks.{NetNode, Sent, Move, Network, Step, CallAt, MomentAt}
use Rattle.trdp_net.specs.Networks.{TopologyAt, RoleAt, DeliveryAt, AddSlotAt, place_of}
use Rattle.trdp_net.specs.Networks.{plain_node, sent_by, reaches, network_step}
use Rattle.trdp_net.specs.Promises.{told_in}
use Rattle.trdp_net.specs.Tellings.{sent_in}
use Rattle.trdp_net.specs.declared.told.Told.{Told}
use Rattle.trdp_net.specs.declared.fault.NetworkFault.{NetworkFault}
use Rattle.trdp_net.specs.declared.fault.NetworkFault.TheVariants.{NoNode, NoTelegram, Elsewhere}
use Rattle.trdp_net.specs.declared.fault.NetworkFault.TheVariants.{Node, Unsent}

-- running nodes, each telegram that was ever sent, and the records of the latest event
pub record NetworkState : Type 0 where
  pub nodes : List NetNode
  pub sent : List Sent
  pub told : List RecordModel

-- what is reported to number s at a move: to an open slot its records; to the number of a slot
-- that is opened there, that it is open
abbrev pub told_at : ℕ → Move → Option SlotState → List Content
told_at s m None = if s == length m.before.slots then told_opening m.event else []
told_at s m (Some slot) = told_in s m (Some slot)

-- number by number the records are those of the latest move
abbrev pub TellsLatest : List Move → List RecordModel → Type 0
TellsLatest [] told = told ≡ []
TellsLatest (m ∷ past) told =
    (s : ℕ) → records_of s told ≡ told_at s m (slice_get m.before.slots s)

-- it shows this network: its nodes, what was sent, and what the latest move reported
pub record Shows (state : NetworkState) (w : Network) : Type 0 where
  pub nodes : state.nodes ≡ w.nodes
  pub sent : state.sent ≡ w.sent
  pub told : TellsLatest w.history state.told

-- whatever network the old state shows, the new one shows that network after the step
abbrev pub Follows : NetworkState → Step → NetworkState → Type 0
Follows old step new = (w : Network) → Shows old w → Shows new (network_step w step)

-- why the step is rejected, where the node rejects the event for that cause
abbrev pub node_fault : Option NodeFault → Option NetworkFault
node_fault None = None
node_fault (Some fault) = Some (Node fault)

-- why a node of the network rejects an event
abbrev pub event_fault : Option NetNode → EventModel → Option NetworkFault
event_fault None event = Some NoNode
event_fault (Some node) event =
    node_fault (refused_as (length node.slots) node.globals event)

-- why a telegram isn't delivered at a node
abbrev pub delivery_fault : Option NetNode → Option Sent → Option NetworkFault
delivery_fault None x = Some NoNode
delivery_fault (Some node) None = Some NoTelegram
delivery_fault (Some node) (Some x) =
    if reaches x.to (place_of x.protocol node.setup)
    then event_fault (Some node) (DatagramIs x.protocol x.from x.to x.bytes)
    else Some Elsewhere

-- why a step is rejected: the first cause that applies
abbrev pub step_fault : NetworkState → Step → Option NetworkFault
step_fault w (CallAt k s call) = event_fault (slice_get w.nodes k) (CallIs s call)
step_fault w (MomentAt k t) = event_fault (slice_get w.nodes k) (MomentIs t)
step_fault w (TopologyAt k topo) = event_fault (slice_get w.nodes k) (TopologyIs topo)
step_fault w (RoleAt k group leader) = event_fault (slice_get w.nodes k) (RoleIs group leader)
step_fault w (AddSlotAt k quotas) = event_fault (slice_get w.nodes k) (AddSlotIs quotas)
step_fault w (DeliveryAt k which) =
    delivery_fault (slice_get w.nodes k) (slice_get w.sent which)

-- the fault is this cause, or `OutOfMemory`
abbrev pub MayFault : Option NetworkFault → NetworkFault → Type 0
MayFault cause fault = (cause ≡ Some fault) ⊎ (fault ≡ Node OutOfMemory)

-- the node accepts the event and reports this
pub record TakesEvent (old new : NetNode) (event : EventModel) (told : Told) : Type 0 where
  pub admitted : refused_as (length old.slots) old.globals event ≡ None
  pub node : new ≡ plain_node old event
  pub sent : sent_in told ≡ sent_by old.setup old.globals event zero old.slots
  pub telling : (k : ℕ) → TellsLatest
      (record { node = k; before = old; event = event } ∷ []) told.out.records

-- the node of that number accepts the event and reports this, and no other node changes
pub record TakesEventAt (old new : List NetNode) (k : ℕ) (event : EventModel) (told : Told)
    : Type 0 where
  pub before : NetNode
  pub before_is : slice_get old k ≡ Some before
  pub after : NetNode
  pub nodes : new ≡ slice_set old k after
  pub takes : TakesEvent before after event told

-- the telegram was found, it reaches the node of that number, and that node accepts it
pub record DeliversAt (old new : List NetNode) (k : ℕ) (found : Option Sent) (told : Told)
    : Type 0 where
  pub x : Sent
  pub x_is : found ≡ Some x
  pub takes : TakesEventAt old new k (DatagramIs x.protocol x.from x.to x.bytes) told
  pub reached : reaches x.to (place_of x.protocol takes.before.setup) ≡ true

-- the result of a step: its fault, and without one at most `OutOfMemory`
abbrev pub AnswerIs : Option NetworkFault → Result (Unit {0}) NetworkFault → Type 0
AnswerIs cause (Ok done) = cause ≡ None
AnswerIs cause (Err fault) = MayFault cause fault

-- a datagram that comes in
abbrev pub is_arrival : EventModel → Bool
is_arrival (MomentIs t) = false
is_arrival (TopologyIs topo) = false
is_arrival (RoleIs group leader) = false
is_arrival (DatagramIs protocol src dst bytes) = true
is_arrival (CallIs slot call) = false
is_arrival (AddSlotIs quotas) = false

-- the step that an event at the node of that number is; a datagram is none, since only what was
-- sent is delivered
abbrev pub own_step_of : ℕ → EventModel → Option Step
own_step_of k (MomentIs t) = Some (MomentAt k t)
own_step_of k (TopologyIs topo) = Some (TopologyAt k topo)
own_step_of k (RoleIs group leader) = Some (RoleAt k group leader)
own_step_of k (DatagramIs protocol src dst bytes) = None
own_step_of k (CallIs slot call) = Some (CallAt k slot call)
own_step_of k (AddSlotIs quotas) = Some (AddSlotAt k quotas)

-- the same as `Follows`, where there is such a step
abbrev pub FollowsIf : NetworkState → Option Step → NetworkState → Type 0
FollowsIf old None new = ⊥
FollowsIf old (Some step) new = Follows old step new

-- why it is rejected
abbrev pub own_fault : NetworkState → Option Step → Option NetworkFault
own_fault w None = Some Unsent
own_fault w (Some step) = step_fault w step
