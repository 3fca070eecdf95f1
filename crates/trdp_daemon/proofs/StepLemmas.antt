-- An event's way through a node, and its records slot by slot.
-- For `take_event`.
-- By induction on the slots: what each is given is its own records.
use Rattle.std.proofs.Common.{◌≡◌, suc, ◌+◌, ℕ, List, [], ◌∷◌, ◌++◌, length, Some, None}
use Rattle.std.proofs.Common.{Ok, Err, Option, refl, sym, ◌∙◌, ap, arith}
use Rattle.std.specs.Prelude.{slice_get}
use Rattle.trdp_model.specs.Configs.{NodeSetup, setup_of}
use Rattle.trdp_filter.specs.declared.globals.Globals.{Globals}
use Rattle.trdp_model.specs.declared.fault.NodeFault.{NodeFault}
use Rattle.trdp_model.specs.declared.fault.NodeFault.TheVariants.{OutOfMemory}
use Rattle.trdp_model.specs.Events.{EventModel}
use Rattle.trdp_model.specs.Records.{RecordModel, labelled}
use Rattle.trdp_model.specs.Slots.{SlotState}
use Rattle.trdp_model.specs.Alone.{FaultIs, refused_as, records_after}
use Rattle.trdp_model.specs.Alone.{told_opening}
use Rattle.trdp_model.specs.NodeModels.{NodeModel, StepsAsAlone, node_after, node_unless}
use Rattle.trdp_outbox.specs.SlotOrder.{by_slot, slots_from, slots_own}
use Rattle.trdp_outbox.proofs.SlotOrderLemmas.Slots.{from_suc, from_zero}
use Rattle.trdp_outbox.proofs.SlotOrderLemmas.Played.{each_after, no_fault, slots_after_event}
use Rattle.trdp_daemon.specs.Effects.{slots_records, records_unless, event_records}

-- the records of the slots from n on
slots_records_after : (setup : NodeSetup) (g : Globals) (event : EventModel)
    (records : List RecordModel) (slots : List SlotState) (n : ℕ)
    → ((i s : ℕ) (slot : SlotState) → s ≡ n + i → slice_get slots i ≡ Some slot
    → labelled s (records_after setup s slot g event) ≡ slots_own s records)
    → slots_records setup g event n slots ≡ slots_from n (length slots) records
slots_records_after setup g event records [] n each = sym (from_zero n records)
slots_records_after setup g event records (slot ∷ slots) n each =
    let at : n ≡ n + 0 = omega arith in
    ap (λ l. l ++ slots_records setup g event (suc n) slots) (each 0 n slot at refl)
    ∙ ap (λ l. slots_own n records ++ l)
    (slots_records_after setup g event records slots (suc n) (λ i s other is there.
    let next : s ≡ n + suc i = omega (arith, is) in each (suc i) s other next there))
    ∙ sym (from_suc n (length slots) records)

-- the records of an event that the node took
pub records_played : (old new : NodeModel) (records records_then : List RecordModel)
    (event : EventModel) → FaultIs (refused_as (length old.slots) old.globals event) (Ok tt)
    → records ≡ [] → ((s : ℕ) → StepsAsAlone old new records records_then event s)
    → by_slot records_then ≡ event_records old event
records_played old new records records_then event taken empty steps =
    let admitted = no_fault (refused_as (length old.slots) old.globals event) taken in
    slots_after_event old new records records_then event taken empty steps
    ∙ ap (λ l. l ++ labelled (length old.slots) (told_opening event))
    (sym (slots_records_after (setup_of old.config) old.globals event records_then old.slots 0
    (each_after old new records records_then event empty steps)))
    ∙ ap (λ fault. records_unless fault old event) (sym admitted)

-- an event that the node rejects has no records
unless_refused :
    (fault : Option NodeFault) (refused : NodeFault) (node : NodeModel) (event : EventModel)
    → FaultIs fault (Err refused) → (refused ≡ OutOfMemory → ⊥)
    → records_unless fault node event ≡ []
unless_refused None refused node event is own = absurd (own is)
unless_refused (Some fault) refused node event is own = refl

pub records_refused : (refused : NodeFault) (node : NodeModel) (event : EventModel)
    → FaultIs (refused_as (length node.slots) node.globals event) (Err refused)
    → (refused ≡ OutOfMemory → ⊥) → event_records node event ≡ []
records_refused refused node event is own = unless_refused
    (refused_as (length node.slots) node.globals event) refused node event is own

-- and leaves the node as it was
unless_kept :
    (fault : Option NodeFault) (refused : NodeFault) (node : NodeModel) (event : EventModel)
    → FaultIs fault (Err refused) → (refused ≡ OutOfMemory → ⊥)
    → node_unless fault node event ≡ node
unless_kept None refused node event is own = absurd (own is)
unless_kept (Some fault) refused node event is own = refl

pub node_refused : (refused : NodeFault) (node : NodeModel) (event : EventModel)
    → FaultIs (refused_as (length node.slots) node.globals event) (Err refused)
    → (refused ≡ OutOfMemory → ⊥) → node_after node event ≡ node
node_refused refused node event is own = unless_kept
    (refused_as (length node.slots) node.globals event) refused node event is own
