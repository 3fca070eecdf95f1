-- What is counted after many events.
-- For `Node::run`.
-- By a loop's invariant: one more event leads to the slots and globals that the events say.
use Rattle.std.proofs.Common.{◌≡◌, ℕ, List, [], ◌∷◌, ◌++◌, length, Bool, true, false}
use Rattle.std.proofs.Common.{is_some, refl, sym, ◌∙◌, ap, subst, append_assoc}
use Rattle.std.proofs.Common.{Option, Some, None, Result, Ok, Err, OnOk, OnErr}
use Rattle.trdp_filter.specs.declared.globals.Globals.{Globals}
use Rattle.trdp_model.specs.declared.fault.NodeFault.{NodeFault}
use Rattle.trdp_model.specs.declared.fault.NodeFault.TheVariants.{OutOfMemory}
use Rattle.trdp_model.specs.Records.{RecordModel}
use Rattle.trdp_model.specs.Events.{EventModel}
use Rattle.trdp_model.specs.Alone.{FaultIs, refused_as, globals_after, slots_then}
use Rattle.trdp_engine.specs.NodeStates.{NodeState}
use Rattle.trdp_engine.specs.NodeRuns.{HasCome, AreRefused, globals_through, slots_through}
use Rattle.trdp_engine.specs.NodeRuns.{CountsLatest, NoneTaken, Latest}
use Rattle.trdp_engine.specs.Costs.{IsBounded}
use Rattle.trdp_model.proofs.ViewLemmas.{refused_opens_none}
use Rattle.trdp_engine.proofs.NodeLemmas.Runs.{RunsAsAloneSoFar, so_far}

-- the slots that the events led to
pub has_come : (old now : NodeState) (records records_now : List RecordModel)
    (events : List EventModel)
    → ((s : ℕ) → RunsAsAloneSoFar old now records records_now events s)
    → HasCome old events now.slots
has_come old now records records_now events runs = record {
  is_alone = λ s. (so_far old now records records_now events s (runs s)).slot_is;
}

refused_more : (n : ℕ) (globals : Globals) (events : List EventModel) (event : EventModel)
    → AreRefused n globals events → is_some (refused_as n globals event) ≡ true
    → AreRefused n globals (events ++ event ∷ [])
refused_more n globals [] event are is = (is, tt)
refused_more n globals (e ∷ events) event are is =
    (are.0, refused_more n globals events event are.1 is)

-- an event that is rejected changes nothing
latest_kept : (old now : NodeState) (events : List EventModel) (event : EventModel)
    → is_some (refused_as (length now.slots) now.globals event) ≡ true
    → CountsLatest old now events → CountsLatest old now (events ++ event ∷ [])
latest_kept old now events event is (NoneTaken refused same) =
    NoneTaken (refused_more (length now.slots) now.globals events event refused is) same
latest_kept old now events event is
    (Latest earlier latest later slots are taken refused come bounded) =
    Latest earlier latest (later ++ event ∷ []) slots (ap (λ (es : List EventModel).
    es ++ event ∷ []) are ∙ append_assoc earlier (latest ∷ later) (event ∷ [])) taken
    (refused_more (length now.slots) now.globals later event refused is) come bounded

fault_is : (fault : Option NodeFault) (other : NodeFault) (result : Result (Unit {0}) NodeFault)
    → result ≡ Err other → FaultIs fault (Err other)
    → (result ≡ Err OutOfMemory → ⊥) → fault ≡ Some other
fault_is None other result is answer memory = absurd (memory (is ∙ ap Err answer))
fault_is (Some fault) other result is answer memory = ap Some (sym answer)

fault_there : (fault : Option NodeFault) (other : NodeFault) (result : Result (Unit {0}) NodeFault)
    → result ≡ Err other → FaultIs fault (Err other)
    → (result ≡ Err OutOfMemory → ⊥) → is_some fault ≡ true
fault_there None other result is answer memory = absurd (memory (is ∙ ap Err answer))
fault_there (Some fault) other result is answer memory = refl

none_there : (fault : Option NodeFault) (done : Unit {0}) → FaultIs fault (Ok done) → fault ≡ None
none_there None done answer = refl
none_there (Some fault) done answer = absurd answer

-- the globals to which one more event leads
through_more : (n : ℕ) (globals : Globals) (events : List EventModel) (event : EventModel)
    → globals_through n globals (events ++ event ∷ [])
    ≡ globals_through (slots_through n events) (globals_through n globals events) (event ∷ [])
through_more n globals [] event = refl
through_more n globals (e ∷ events) event =
    either (is_some (refused_as n globals e)) refl
    (through_more (slots_then n e) globals events event)
    (through_more (slots_then n e) (globals_after globals e) events event)
  where
    m : ℕ
    m = slots_then n e

    either : (b : Bool) → is_some (refused_as n globals e) ≡ b
        → globals_through m globals (events ++ event ∷ [])
        ≡ globals_through (slots_through m events) (globals_through m globals events) (event ∷ [])
        → globals_through m (globals_after globals e) (events ++ event ∷ [])
        ≡ globals_through (slots_through m events)
        (globals_through m (globals_after globals e) events) (event ∷ [])
        → globals_through n globals (e ∷ events ++ event ∷ [])
        ≡ globals_through (slots_through n (e ∷ events))
        (globals_through n globals (e ∷ events)) (event ∷ [])
    either true is refused taken = rw is refused
    either false is refused taken = rw is taken

-- how many slots there are after one more event
slots_more : (n : ℕ) (events : List EventModel) (event : EventModel)
    → slots_through n (events ++ event ∷ []) ≡ slots_then (slots_through n events) event
slots_more n [] event = refl
slots_more n (e ∷ events) event = slots_more (slots_then n e) events event

-- the same of a node, whatever the step returned but `OutOfMemory`
pub slots_next : (old now next : NodeState) (events : List EventModel) (event : EventModel)
    (result : Result (Unit {0}) NodeFault)
    → FaultIs (refused_as (length now.slots) now.globals event) result
    → (result ≡ Err OutOfMemory → ⊥) → OnErr result (next ≡ now)
    → OnOk result (length next.slots ≡ slots_then (length now.slots) event)
    → length now.slots ≡ slots_through (length old.slots) events
    → length next.slots ≡ slots_through (length old.slots) (events ++ event ∷ [])
slots_next old now next events event (Ok done) answer memory kept count led =
    count ∙ ap (λ n. slots_then n event) led ∙ sym (slots_more (length old.slots) events event)
slots_next old now next events event (Err fault) answer memory kept count led =
    let here : refused_as (length now.slots) now.globals event ≡ Some fault =
    fault_is (refused_as (length now.slots) now.globals event) fault (Err fault) refl answer memory
    in ap (λ (node : NodeState). length node.slots) kept
    ∙ sym (refused_opens_none (length now.slots) now.globals event fault here)
    ∙ ap (λ n. slots_then n event) led ∙ sym (slots_more (length old.slots) events event)

-- the globals that the events led to, after one more
pub globals_next : (old now next : NodeState) (events : List EventModel) (event : EventModel)
    (result : Result (Unit {0}) NodeFault)
    → length now.slots ≡ slots_through (length old.slots) events
    → FaultIs (refused_as (length now.slots) now.globals event) result
    → (result ≡ Err OutOfMemory → ⊥) → OnErr result (next ≡ now)
    → OnOk result (next.globals ≡ globals_after now.globals event)
    → now.globals ≡ globals_through (length old.slots) old.globals events
    → next.globals ≡ globals_through (length old.slots) old.globals (events ++ event ∷ [])
globals_next old now next events event (Ok done) count answer memory kept globals led =
    let none = none_there (refused_as (length now.slots) now.globals event) done answer in
    let none_then = rw (count, led) at none in
    rw (through_more (length old.slots) old.globals events event, none_then)
    (globals ∙ ap (λ (g : Globals). globals_after g event) led)
globals_next old now next events event (Err fault) count answer memory kept globals led =
    let there = fault_there (refused_as (length now.slots) now.globals event)
    fault (Err fault) refl answer memory in
    let there_then = rw (count, led) at there in
    rw (through_more (length old.slots) old.globals events event, there_then)
    (ap (λ (node : NodeState). node.globals) kept ∙ led)

-- one more event, whatever the step returned but `OutOfMemory`
pub latest_next : (old now next : NodeState) (events : List EventModel)
    (event : EventModel) (result : Result (Unit {0}) NodeFault)
    → FaultIs (refused_as (length now.slots) now.globals event) result
    → (result ≡ Err OutOfMemory → ⊥) → HasCome old events now.slots
    → now.globals ≡ globals_through (length old.slots) old.globals events
    → OnErr result (next ≡ now) → OnOk result (IsBounded now.slots event next.counts)
    → CountsLatest old now events → CountsLatest old next (events ++ event ∷ [])
latest_next old now next events event (Ok done) answer memory come led kept bounded latest =
    let none = none_there (refused_as (length now.slots) now.globals event) done answer in
    Latest events event [] now.slots refl (rw led at none) tt come bounded
latest_next old now next events event (Err fault) answer memory come led kept bounded latest =
    subst (λ (n : NodeState). CountsLatest old n (events ++ event ∷ [])) (sym kept)
    (latest_kept old now events event (fault_there (refused_as (length now.slots) now.globals event)
    fault (Err fault) refl answer memory) latest)
