-- A run, event by event of the node.
-- For `Node::run`, and for `NodeLemmas.Latest`.
-- By a loop's invariant: the records so far, and the run from here on, are the run from the start.
use Rattle.std.proofs.Common.{◌≡◌, ℕ, ◌+◌, ◌<◌, List, [], ◌∷◌, ◌++◌, length}
use Rattle.std.proofs.Common.{get_or, take, map, refl, ◌∙◌, ap, sym, append_assoc}
use Rattle.std.proofs.Common.{IfSome, Some, None, Result, Ok, Err, OnOk, OnErr, Option}
use Rattle.std.specs.Prelude.{slice_get, ◌≤◌}
use Rattle.std.proofs.Common.{arith}
use Rattle.trdp_engine.specs.NodeStates.{uncounted}
use Rattle.trdp_model.proofs.AddedSlotLemmas.{slots_grow}
use Rattle.std.proofs.lemmas.List.{append-nil, map-append, take_more}
use Rattle.std.proofs.lemmas.Option.{slice_get_within}
use Rattle.trdp_model.specs.declared.event.Event.{Event}
use Rattle.trdp_model.specs.declared.fault.NodeFault.{NodeFault}
use Rattle.trdp_model.specs.declared.fault.NodeFault.TheVariants.{OutOfMemory}
use Rattle.trdp_model.specs.Configs.{setup_of}
use Rattle.trdp_model.specs.Records.{RecordModel, records_of}
use Rattle.trdp_model.specs.Events.{EventModel, event_model}
use Rattle.trdp_model.specs.Slots.{SlotState}
use Rattle.trdp_model.specs.Alone.{refused_as, FaultIs, globals_after, Run, prepend}
use Rattle.trdp_model.specs.Alone.{alone_in_view, standing_after, slots_then}
use Rattle.trdp_engine.specs.NodeStates.{NodeState}
use Rattle.trdp_model.specs.NodeModels.{StepsAsAlone, RunsAsAlone}
use Rattle.trdp_model.proofs.ViewLemmas.{admitted_first, refused_first, prepend-prepend}

-- whatever comes later: the records so far and the run from here on are the run from the start
abbrev pub RunsAsAloneSoFar : NodeState → NodeState → List RecordModel → List RecordModel
    → List EventModel → ℕ → Type 0
RunsAsAloneSoFar old now records records_then events s =
    (later : List EventModel) → prepend (records_of s records) (alone_in_view
    (setup_of old.config) s (length old.slots) (slice_get old.slots s) old.globals
    (events ++ later)) ≡ prepend
    (records_of s records_then)
    (alone_in_view (setup_of old.config) s (length now.slots) (slice_get now.slots s) now.globals
    later)

-- one more event that is admitted
one_admitted : (old now next : NodeState) (records records_now records_next : List RecordModel)
    (events : List EventModel) (event : EventModel) (s : ℕ)
    → now.config ≡ old.config → RunsAsAloneSoFar old now records records_now events s
    → refused_as (length now.slots) now.globals event ≡ None
    → next.globals ≡ globals_after now.globals event
    → length next.slots ≡ slots_then (length now.slots) event
    → StepsAsAlone (uncounted now) (uncounted next) records_now records_next event s
    → RunsAsAloneSoFar old next records records_next (events ++ event ∷ []) s
one_admitted old now next records records_now
    records_next events event s same r admitted globals count stepped = λ later.
    rw (append_assoc events (event ∷ []) later)
    (r (event ∷ later)
    ∙ (ap (prepend (records_of s records_now)) (admitted_first (setup_of old.config)
    s (length now.slots) (slice_get now.slots s) now.globals event later admitted)
    ∙ (prepend-prepend (records_of s records_now)
    (standing_after (setup_of old.config) s (length now.slots) (slice_get now.slots s) now.globals
    event).records _
    ∙ rw (globals, stepped.records_are, stepped.slot_is, count, same) refl)))

-- a number under which a slot is open is below how many there are
within : (slots : List SlotState) (s : ℕ) → IfSome (slice_get slots s) (λ x. s < length slots)
within slots s = from (slice_get slots s) refl
  where
    from : (there : Option SlotState) → slice_get slots s ≡ there
        → IfSome there (λ x. s < length slots)
    from None at = tt
    from (Some x) at = slice_get_within slots s x at

-- one more event that isn't admitted
one_refused : (old now : NodeState) (records records_now : List RecordModel)
    (events : List EventModel) (event : EventModel) (fault : NodeFault) (s : ℕ)
    → RunsAsAloneSoFar old now records records_now events s
    → refused_as (length now.slots) now.globals event ≡ Some fault
    → RunsAsAloneSoFar old now records records_now (events ++ event ∷ []) s
one_refused old now records records_now events event fault s r bad = λ later.
    rw (append_assoc events (event ∷ []) later)
    (r (event ∷ later)
    ∙ ap (prepend (records_of s records_now))
    (refused_first (setup_of old.config) s (length now.slots) (slice_get now.slots s)
    now.globals event later fault (within now.slots s) bad))

-- one more event, whatever the step returned but `OutOfMemory`
pub one_event : (old now next : NodeState) (records records_now records_next : List RecordModel)
    (events : List EventModel) (event : EventModel)
    (s : ℕ) (fault : Option NodeFault) (result : Result (Unit {0}) NodeFault)
    → now.config ≡ old.config → refused_as (length now.slots) now.globals event ≡ fault
    → FaultIs fault result → (result ≡ Err OutOfMemory → ⊥)
    → OnErr result (next ≡ now) → OnErr result (records_next ≡ records_now)
    → OnOk result (next.globals ≡ globals_after now.globals event)
    → OnOk result (length next.slots ≡ slots_then (length now.slots) event)
    → OnOk result ((s : ℕ)
    → StepsAsAlone (uncounted now) (uncounted next) records_now records_next event s)
    → RunsAsAloneSoFar old now records records_now events s
    → RunsAsAloneSoFar old next records records_next (events ++ event ∷ []) s
one_event old now next records records_now records_next events event
    s None (Ok done) same is answer memory kept unrecorded globals count steps r = one_admitted old
    now next records records_now records_next events event s same r is globals count (steps s)
one_event old now next records records_now records_next events event s None (Err other)
    same is answer memory kept unrecorded globals count steps r = absurd (memory (ap Err answer))
one_event old now next records records_now records_next events event s
    (Some fault) (Ok done) same is answer memory kept unrecorded globals count steps r =
    absurd answer
one_event old now next records records_now records_next events
    event s (Some fault) (Err other) same is answer memory kept unrecorded globals count steps r =
    rw (kept, unrecorded) (one_refused old now records records_now events event fault s r is)

pub so_far : (old now : NodeState) (records records_now : List RecordModel)
    (events : List EventModel) (s : ℕ)
    → RunsAsAloneSoFar old now records records_now events s
    → RunsAsAlone (uncounted old) (uncounted now) records records_now events s
so_far old now records records_now events s r =
    let end = rw (append-nil events) at (r []) in
    record {
      slot_is = sym (ap (λ (run : Run). run.slot) end);
      globals_are = sym (ap (λ (run : Run). run.globals) end);
      records_are =
          sym (ap (λ (run : Run). run.records) end ∙ append-nil (records_of s records_now));
    }

pub one_more : (events : List Event) (i : ℕ) (none : Event)
    → i < length events → map event_model (take (i + 1) events)
    ≡ map event_model (take i events) ++ event_model (get_or events i none) ∷ []
one_more events i none lt = ap (map event_model) (take_more events i none lt)
    ∙ map-append event_model (take i events) (get_or events i none ∷ [])

pub node_grows : (now next : NodeState) (event : EventModel) (result : Result (Unit {0}) NodeFault)
    → OnErr result (next ≡ now)
    → OnOk result (length next.slots ≡ slots_then (length now.slots) event)
    → length now.slots ≤ length next.slots
node_grows now next event (Ok done) kept count =
    omega (arith, count, slots_grow (length now.slots) event)
node_grows now next event (Err fault) kept count = rw kept (omega arith)
