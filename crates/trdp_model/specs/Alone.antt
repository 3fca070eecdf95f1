-- What is at a slot's number, an open slot or none, run by itself, and what it sees of a node's
-- events.
use Rattle.std.specs.Prelude.{◌≡◌, ℕ, List, [], ◌∷◌, ◌++◌, Option, Some, None, Bool, true, not}
use Rattle.std.specs.Prelude.{false, ◌==◌, ◌&&◌, nat_le, nat_lt, if◌then◌else◌, Result, Ok, Err}
use Rattle.std.specs.Prelude.{◌+◌}
use Rattle.trdp_base.specs.Moments.{last_moment}
use Rattle.trdp_filter.specs.declared.globals.Globals.{Globals}
use Rattle.trdp_filter.specs.Globals.{with_role}
use Rattle.trdp_model.specs.declared.fault.NodeFault.{NodeFault}
use Rattle.trdp_model.specs.declared.fault.NodeFault.TheVariants.{NoSlot, Past, TooLate, NoGroup}
use Rattle.trdp_model.specs.declared.fault.NodeFault.TheVariants.{OutOfMemory, SlotsFull}
use Rattle.trdp_model.specs.Slots.{slot_limit}
use Rattle.trdp_model.specs.Configs.{NodeSetup}
use Rattle.trdp_model.specs.Records.{Content, Answers, OpenedIs}
use Rattle.trdp_model.specs.Events.{EventModel, MomentIs, TopologyIs, RoleIs, DatagramIs, CallIs}
use Rattle.trdp_model.specs.Events.{AddSlotIs}
use Rattle.trdp_model.specs.Slots.{SlotState, Outcome, unchanged, empty_slot}
use Rattle.trdp_model.specs.Calls.{called}
use Rattle.trdp_model.specs.Datagrams.{telegram_of, received_if, concerns}
use Rattle.trdp_model.specs.Moments.{moved_to}

-- the fault, other than OutOfMemory, of an event in a node of that many slots; an event without
-- one is admitted
-- rule: slot.full event.fault
abbrev pub refused_as : ℕ → Globals → EventModel → Option NodeFault
refused_as slots globals (MomentIs t) =
    if nat_lt t globals.now then Some Past else
    if nat_lt last_moment t then Some TooLate else None
refused_as slots globals (TopologyIs topo) = None
refused_as slots globals (RoleIs group leader) = if group == 0 then Some NoGroup else None
refused_as slots globals (DatagramIs protocol src dst bytes) = None
refused_as slots globals (CallIs slot call) = if nat_le slots slot then Some NoSlot else None
refused_as slots globals (AddSlotIs quotas) =
    if nat_le slot_limit slots then Some SlotsFull else None

-- the answer to an event: its fault, and without one at most OutOfMemory
abbrev pub FaultIs : Option NodeFault → Result (Unit {0}) NodeFault → Type 0
FaultIs None (Ok done) = Unit {0}
FaultIs None (Err fault) = fault ≡ OutOfMemory
FaultIs (Some fault) (Ok done) = ⊥
FaultIs (Some fault) (Err other) = other ≡ fault

-- node globals after an admitted event
-- rule: topology.set
abbrev pub globals_after : Globals → EventModel → Globals
globals_after globals (MomentIs t) = record globals { now = t }
globals_after globals (TopologyIs topo) = record globals { topo = topo }
globals_after globals (RoleIs group leader) =
    record globals { led = with_role globals.led group leader }
globals_after globals (DatagramIs protocol src dst bytes) = globals
globals_after globals (CallIs slot call) = globals
globals_after globals (AddSlotIs quotas) = globals

-- the slots that an admitted event opens, after those that are there
abbrev pub opened_by : EventModel → List SlotState
opened_by (AddSlotIs quotas) = empty_slot quotas ∷ []
opened_by event = []

-- the record of the slot that it opens
abbrev pub told_opening : EventModel → List Content
told_opening (AddSlotIs quotas) = Answers OpenedIs ∷ []
told_opening event = []

-- how many slots there are after any event, admitted or not
abbrev pub slots_then : ℕ → EventModel → ℕ
slots_then n (AddSlotIs quotas) = if nat_lt n slot_limit then n + 1 else n
slots_then n event = n

-- an event that an open slot s sees: each admitted moment, topology counters, each admitted role,
-- the datagrams that concern it, and its own calls; never that another slot is opened
abbrev pub is_in_view : ℕ → SlotState → Globals → EventModel → Bool
is_in_view s slot globals (MomentIs t) = nat_le globals.now t && nat_le t last_moment
is_in_view s slot globals (TopologyIs topo) = true
is_in_view s slot globals (RoleIs group leader) = not (group == 0)
is_in_view s slot globals (DatagramIs protocol src dst bytes) =
    concerns globals (telegram_of protocol src dst bytes) slot
is_in_view s slot globals (CallIs r call) = r == s
is_in_view s slot globals (AddSlotIs quotas) = false

-- effect of an event on a slot that sees it
abbrev pub seen_effect : NodeSetup → SlotState → Globals → EventModel → Outcome
seen_effect setup slot globals (MomentIs t) = moved_to slot (record globals { now = t })
seen_effect setup slot globals (TopologyIs topo) = unchanged slot
seen_effect setup slot globals (RoleIs group leader) = unchanged slot
seen_effect setup slot globals (DatagramIs protocol src dst bytes) =
    received_if setup slot globals (telegram_of protocol src dst bytes)
seen_effect setup slot globals (CallIs s call) = called setup slot globals call
seen_effect setup slot globals (AddSlotIs quotas) = unchanged slot

-- what is at a slot's number, an open slot or none, and the records that the number gets
pub record Standing : Type 0 where
  pub slot : Option SlotState
  pub records : List Content

-- no slot is open, and nothing is got
abbrev pub none_there : Standing
none_there = record { slot = None; records = [] }

-- effect of an event that is seen at a number: on an open slot its own effect; where no slot is
-- open none, or one is opened there and gets a record
-- rule: slot.added slot.opened
abbrev pub number_effect : NodeSetup → Option SlotState → Globals → EventModel → Standing
number_effect setup (Some slot) globals event = record {
  slot = Some (seen_effect setup slot globals event).slot;
  records = (seen_effect setup slot globals event).records;
}
number_effect setup None globals (AddSlotIs quotas) =
    record { slot = Some (empty_slot quotas); records = Answers OpenedIs ∷ [] }
number_effect setup None globals event = none_there

-- An event of a node with n slots that is seen at number s. An open slot sees what is in its view.
-- Without one the events are seen that every slot sees, since all slots share the globals, and
-- that a slot is opened there.
abbrev pub is_seen : ℕ → ℕ → Option SlotState → Globals → EventModel → Bool
is_seen s n (Some slot) globals event = is_in_view s slot globals event
is_seen s n None globals (MomentIs t) = nat_le globals.now t && nat_le t last_moment
is_seen s n None globals (TopologyIs topo) = true
is_seen s n None globals (RoleIs group leader) = not (group == 0)
is_seen s n None globals (DatagramIs protocol src dst bytes) = false
is_seen s n None globals (CallIs r call) = false
is_seen s n None globals (AddSlotIs quotas) = s == n && nat_lt n slot_limit

-- what is at a number after a list of events, the globals then, and all its records in order
pub record Run : Type 0 where
  pub slot : Option SlotState
  pub globals : Globals
  pub records : List Content

-- the same with these records before its own
abbrev pub prepend : List Content → Run → Run
prepend records run = record run { records = records ++ run.records }

-- what is at a number, run by itself over a list of events
abbrev pub alone : NodeSetup → Option SlotState → Globals → List EventModel → Run
alone setup slot globals [] = record { slot = slot; globals = globals; records = [] }
alone setup slot globals (event ∷ events) =
    prepend (number_effect setup slot globals event).records
    (alone setup (number_effect setup slot globals event).slot
    (globals_after globals event) events)

-- the events of a node with n slots that are seen at number s
abbrev pub view : NodeSetup → ℕ → ℕ → Option SlotState → Globals → List EventModel
    → List EventModel
view setup s n slot globals [] = []
view setup s n slot globals (event ∷ events) =
    if is_seen s n slot globals event
    then event ∷ view setup s (slots_then n event) (number_effect setup slot globals event).slot
    (globals_after globals event) events
    else view setup s (slots_then n event) slot globals events

-- what is at number s of a node with n slots, run by itself over the events that it sees
-- rule: slot.alone
abbrev pub alone_in_view : NodeSetup → ℕ → ℕ → Option SlotState → Globals → List EventModel
    → Run
alone_in_view setup s n slot globals events =
    alone setup slot globals (view setup s n slot globals events)

-- what is at number s after any one event of a node with n slots, and the records that it gets
abbrev pub standing_after : NodeSetup → ℕ → ℕ → Option SlotState → Globals → EventModel
    → Standing
standing_after setup s n slot globals event =
    if is_seen s n slot globals event
    then number_effect setup slot globals event
    else record { slot = slot; records = [] }

-- an open slot s after any one event of the node
abbrev pub slot_after : NodeSetup → ℕ → SlotState → Globals → EventModel → SlotState
slot_after setup s slot globals event =
    if is_in_view s slot globals event
    then (seen_effect setup slot globals event).slot
    else slot

-- the records that an open slot s gets at any one event of the node
abbrev pub records_after : NodeSetup → ℕ → SlotState → Globals → EventModel → List Content
records_after setup s slot globals event =
    if is_in_view s slot globals event
    then (seen_effect setup slot globals event).records
    else []

-- effect of any event on slot s, whether the slot sees it or not: the calls of other slots are
-- none of its own
abbrev pub plain_effect : NodeSetup → ℕ → SlotState → Globals → EventModel → Outcome
plain_effect setup s slot globals (MomentIs t) = moved_to slot (record globals { now = t })
plain_effect setup s slot globals (TopologyIs topo) = unchanged slot
plain_effect setup s slot globals (RoleIs group leader) = unchanged slot
plain_effect setup s slot globals (DatagramIs protocol src dst bytes) =
    received_if setup slot globals (telegram_of protocol src dst bytes)
plain_effect setup s slot globals (CallIs r call) =
    if r == s then called setup slot globals call else unchanged slot
plain_effect setup s slot globals (AddSlotIs quotas) = unchanged slot
