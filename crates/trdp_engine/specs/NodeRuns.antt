-- What the contract of a run says of a node.
use Rattle.trdp_engine.specs.NodeStates.{uncounted}
use Rattle.std.specs.Prelude.{◌≡◌, ℕ, ◌≤◌, List, [], ◌∷◌, ◌++◌, length, slice_get, map, take}
use Rattle.std.specs.Prelude.{None, IfSome, is_some, true, if◌then◌else◌}
use Rattle.trdp_filter.specs.declared.globals.Globals.{Globals}
use Rattle.trdp_model.specs.declared.event.Event.{Event}
use Rattle.trdp_model.specs.Configs.{setup_of}
use Rattle.trdp_model.specs.Events.{EventModel, event_model}
use Rattle.trdp_model.specs.Slots.{SlotState}
use Rattle.trdp_outbox.specs.Outboxes.{OutboxState}
use Rattle.trdp_model.specs.Alone.{refused_as, globals_after, slots_then}
use Rattle.trdp_model.specs.Alone.{alone_in_view}
use Rattle.trdp_engine.specs.NodeStates.{NodeState}
use Rattle.trdp_model.specs.NodeModels.{RunsAsAlone, Appends, MayTakeMemory}
use Rattle.trdp_outbox.specs.Rooms.{MayLackMemory}
use Rattle.trdp_engine.specs.Costs.{IsBounded}

-- these are a node's slots after the events
pub record HasCome (old : NodeState) (events : List EventModel)
    (slots : List SlotState) : Type 0 where
  pub is_alone : (s : ℕ) → slice_get slots s
      ≡ (alone_in_view (setup_of old.config) s (length old.slots) (slice_get old.slots s)
      old.globals events).slot

-- how many slots a node has after these events, which had n before
abbrev pub slots_through : ℕ → List EventModel → ℕ
slots_through n [] = n
slots_through n (event ∷ events) = slots_through (slots_then n event) events

-- the globals to which these events lead a node of n slots; events that it rejects leave them
abbrev pub globals_through : ℕ → Globals → List EventModel → Globals
globals_through n globals [] = globals
globals_through n globals (event ∷ events) =
    if is_some (refused_as n globals event)
    then globals_through (slots_then n event) globals events
    else globals_through (slots_then n event) (globals_after globals event) events

-- a node of n slots rejects each of these events
abbrev pub AreRefused : ℕ → Globals → List EventModel → Type 0
AreRefused n globals [] = Unit {0}
AreRefused n globals (event ∷ events) =
    (is_some (refused_as n globals event) ≡ true) × AreRefused n globals events

-- what a node has counted after these events is as before, where none was accepted; else it is
-- within the bounds of the latest that was accepted, with the slots to which those before it led.
-- That one has no fault in the globals to which those before it led, and all after it are
-- rejected.
pub data CountsLatest (old new : NodeState) (events : List EventModel) : Type 0 where
  NoneTaken : AreRefused (length new.slots) new.globals events → new.counts ≡ old.counts
      → CountsLatest old new events
  Latest : (earlier : List EventModel) (latest : EventModel) (later : List EventModel)
      (slots : List SlotState) → events ≡ earlier ++ latest ∷ later
      → refused_as (length slots)
      (globals_through (length old.slots) old.globals earlier) latest ≡ None
      → AreRefused (length new.slots) new.globals later → HasCome old earlier slots
      → IsBounded slots latest new.counts → CountsLatest old new events

-- this many of the events were processed, and at the next an allocation may fail; the slot of each
-- number, or none, ran as by itself, and the new records follow the old ones
pub record HasRun (old new : NodeState) (out out_then : OutboxState) (events : List Event)
    (taken : ℕ) : Type 0 where
  pub within : taken ≤ length events
  pub stops : IfSome (slice_get events taken)
      (λ event. MayTakeMemory (uncounted new) (event_model event))
  pub lacks : IfSome (slice_get events taken)
      (λ event. MayLackMemory (uncounted new) out_then (event_model event))
  pub config_is : new.config ≡ old.config
  pub count : length new.slots
      ≡ slots_through (length old.slots) (map event_model (take taken events))
  pub runs : (s : ℕ) → RunsAsAlone (uncounted old) (uncounted new) out.records out_then.records
      (map event_model (take taken events)) s
  pub appends : Appends new.slots out.records out_then.records
  pub counted : CountsLatest old new (map event_model (take taken events))
