-- A node as its rules know it, and what its events do to each slot.
use Rattle.std.specs.Prelude.{◌≡◌, ℕ, ◌<◌, ◌++◌, List, length, filter, slice_get, Some, None}
use Rattle.std.specs.Prelude.{true, map, Option}
use Rattle.std.specs.List.{sum_by, list_any}
use Rattle.trdp_filter.specs.declared.globals.Globals.{Globals}
use Rattle.trdp_dataset.specs.Configs.{ConfigModel}
use Rattle.trdp_filter.specs.Globals.{first_globals}
use Rattle.trdp_model.specs.Records.{Content, RecordModel, records_of}
use Rattle.trdp_model.specs.Events.{EventModel, MomentIs, TopologyIs, RoleIs}
use Rattle.trdp_model.specs.Events.{DatagramIs, CallIs, AddSlotIs}
use Rattle.trdp_model.specs.Slots.{SlotState, Outcome, empty_slot}
use Rattle.trdp_model.specs.Configs.{setup_of}
use Rattle.trdp_model.specs.Datagrams.{telegram_of, concerns}
use Rattle.trdp_model.specs.Moments.{is_due}
use Rattle.trdp_model.specs.Alone.{standing_after, alone_in_view}
use Rattle.std.specs.Prelude.{ℕ, suc, List, [], ◌∷◌, ◌++◌, length}
use Rattle.std.specs.Prelude.{Option, Some, None}
use Rattle.trdp_dataset.specs.Configs.{ConfigModel}
use Rattle.trdp_filter.specs.declared.globals.Globals.{Globals}
use Rattle.trdp_model.specs.declared.fault.NodeFault.{NodeFault}
use Rattle.trdp_model.specs.Configs.{NodeSetup, setup_of}
use Rattle.trdp_model.specs.Events.{EventModel}
use Rattle.trdp_model.specs.Slots.{SlotState}
use Rattle.trdp_model.specs.Alone.{refused_as, globals_after, slot_after}
use Rattle.trdp_model.specs.Alone.{opened_by}

-- a node: its configuration, its globals, its slots
pub record NodeModel : Type 0 where
  pub config : ConfigModel
  pub globals : Globals
  pub slots : List SlotState

-- a node that was just made serves each slot of its configuration, and all are empty
abbrev pub opened_model : ConfigModel → NodeModel
opened_model config =
    record {
      config = config;
      globals = first_globals;
      slots = map (λ slot. empty_slot slot.quotas) config.slots;
    }

-- one event, as number s sees it, whether a slot is open there or not
pub record StepsAsAlone (old new : NodeModel) (records records_then : List RecordModel)
    (event : EventModel) (s : ℕ) : Type 0 where
  pub slot_is : slice_get new.slots s
      ≡ (standing_after (setup_of old.config) s (length old.slots) (slice_get old.slots s)
      old.globals event).slot
  pub records_are : records_of s records_then
      ≡ records_of s records
      ++ (standing_after (setup_of old.config) s (length old.slots) (slice_get old.slots s)
      old.globals event).records

-- a list of events, as number s sees it: what is there, the globals and the records are those of
-- what was there, run by itself
pub record RunsAsAlone (old new : NodeModel) (records records_then : List RecordModel)
    (events : List EventModel) (s : ℕ) : Type 0 where
  pub slot_is : slice_get new.slots s
      ≡ (alone_in_view (setup_of old.config) s (length old.slots) (slice_get old.slots s)
      old.globals events).slot
  pub globals_are : new.globals
      ≡ (alone_in_view (setup_of old.config) s (length old.slots) (slice_get old.slots s)
      old.globals events).globals
  pub records_are : records_of s records_then
      ≡ records_of s records
      ++ (alone_in_view (setup_of old.config) s (length old.slots) (slice_get old.slots s)
      old.globals events).records

-- the records of before come first, and none is added for a number that no slot has
pub record Appends (slots : List SlotState)
    (records records_then : List RecordModel) : Type 0 where
  pub more : List RecordModel
  pub front : records_then ≡ records ++ more
  pub none_else : (s : ℕ) → slice_get slots s ≡ None
      → records_of s records_then ≡ records_of s records

-- how many objects of the slots are due by t
abbrev pub due_in : ℕ → List SlotState → ℕ
due_in t slots = sum_by (λ slot. length (filter (is_due t) slot.objects)) slots

-- the least moment by which something is due in these slots; none where nothing ever will be
abbrev pub IsNextDue : List SlotState → Option ℕ → Type 0
IsNextDue slots None = (t : ℕ) → due_in t slots ≡ 0
IsNextDue slots (Some due) = (0 < due_in due slots) × ((t : ℕ) → t < due → due_in t slots ≡ 0)

-- the events that may run out of memory: a call, a moment by which something is due, a datagram
-- that concerns a slot, the opening of a slot
abbrev pub MayTakeMemory : NodeModel → EventModel → Type 0
MayTakeMemory node (MomentIs t) = 0 < due_in t node.slots
MayTakeMemory node (TopologyIs topo) = ⊥
MayTakeMemory node (RoleIs group leader) = ⊥
MayTakeMemory node (DatagramIs protocol src dst bytes) =
    list_any (concerns node.globals (telegram_of protocol src dst bytes)) node.slots ≡ true
MayTakeMemory node (CallIs s call) = Unit {0}
MayTakeMemory node (AddSlotIs quotas) = Unit {0}

-- what is at number s is the same in two nodes, and has got the same records since
pub record GetsTheSame (first second : NodeModel)
    (records records_then others others_then : List RecordModel) (s : ℕ) : Type 0 where
  pub slot_is : slice_get first.slots s ≡ slice_get second.slots s
  pub got : List Content
  pub first_got : records_of s records_then ≡ records_of s records ++ got
  pub second_got : records_of s others_then ≡ records_of s others ++ got

-- slot s of these slots is that of the outcome, and has got its records
pub record HasOutcome (slots : List SlotState) (records records_then : List RecordModel) (s : ℕ)
    (outcome : Outcome) : Type 0 where
  pub slot_is : slice_get slots s ≡ Some outcome.slot
  pub records_are : records_of s records_then ≡ records_of s records ++ outcome.records

-- the same of a node
abbrev pub GetsOutcome : NodeModel → List RecordModel → List RecordModel → ℕ → Outcome → Type 0
GetsOutcome new records records_then s outcome =
    HasOutcome new.slots records records_then s outcome

-- the slots that are there, of which the first has the number s, after an event that the node
-- accepts
abbrev pub slots_after : NodeSetup → Globals → EventModel → ℕ → List SlotState → List SlotState
slots_after setup g event s [] = []
slots_after setup g event s (slot ∷ slots) =
    slot_after setup s slot g event ∷ slots_after setup g event (suc s) slots

-- the node after an event with this fault, which it ignores, or with none
abbrev pub node_unless : Option NodeFault → NodeModel → EventModel → NodeModel
node_unless (Some fault) node event = node
node_unless None node event = record node {
  globals = globals_after node.globals event;
  slots = slots_after (setup_of node.config) node.globals event 0 node.slots ++ opened_by event;
}

-- the node after an event
abbrev pub node_after : NodeModel → EventModel → NodeModel
node_after node event = node_unless (refused_as (length node.slots) node.globals event) node event

-- the node after events, one after another
abbrev pub nodes_after : NodeModel → List EventModel → NodeModel
nodes_after node [] = node
nodes_after node (event ∷ events) = nodes_after (node_after node event) events
