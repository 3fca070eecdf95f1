-- The text of an event.
-- For a script's `play`.
-- By induction on the slots: each slot's text is the text of its own records.
use Rattle.std.proofs.Common.{◌≡◌, suc, ◌+◌, ℕ, List, [], ◌∷◌, ◌++◌, length, Some, None, Ok, Err}
use Rattle.std.proofs.Common.{Option, refl, sym, ◌∙◌, ap, arith}
use Rattle.std.specs.Prelude.{slice_get}
use Rattle.std.specs.List.{flat_map}
use Rattle.std.proofs.lemmas.Grind.{flat_map-append}
use Rattle.trdp_model.specs.Configs.{NodeSetup, setup_of}
use Rattle.trdp_filter.specs.declared.globals.Globals.{Globals}
use Rattle.trdp_model.specs.declared.fault.NodeFault.{NodeFault}
use Rattle.trdp_model.specs.declared.fault.NodeFault.TheVariants.{OutOfMemory}
use Rattle.trdp_model.specs.Events.{EventModel}
use Rattle.trdp_model.specs.Records.{RecordModel, labelled}
use Rattle.trdp_model.specs.Slots.{SlotState}
use Rattle.trdp_model.specs.Alone.{FaultIs, refused_as, records_after, told_opening}
use Rattle.trdp_model.specs.NodeModels.{NodeModel, StepsAsAlone}
use Rattle.trdp_outbox.specs.SlotOrder.{by_slot, slots_from, slots_own}
use Rattle.trdp_outbox.proofs.SlotOrderLemmas.Played.{each_after, no_fault, slots_after_event}
use Rattle.trdp_outbox.proofs.SlotOrderLemmas.Slots.{from_suc, from_zero}
use Rattle.trdp_text.specs.EventText.{event_text, slots_text, text_unless}
use Rattle.trdp_text.specs.RecordText.{text_of_fault, text_of_record}

-- the text of the slots from n on
slots_text_after : (setup : NodeSetup) (g : Globals) (event : EventModel)
    (records : List RecordModel) (slots : List SlotState) (n : ℕ)
    → ((i s : ℕ) (slot : SlotState) → s ≡ n + i → slice_get slots i ≡ Some slot
    → labelled s (records_after setup s slot g event) ≡ slots_own s records)
    → slots_text setup g event n slots
    ≡ flat_map text_of_record (slots_from n (length slots) records)
slots_text_after setup g event records [] n each =
    ap (flat_map text_of_record) (sym (from_zero n records))
slots_text_after setup g event records (slot ∷ slots) n each =
    let at : n ≡ n + 0 = omega arith in
    let rest = slots_from (suc n) (length slots) records in
    ap (λ l. flat_map text_of_record l ++ slots_text setup g event (suc n) slots)
    (each 0 n slot at refl)
    ∙ ap (λ l. flat_map text_of_record (slots_own n records) ++ l)
    (slots_text_after setup g event records slots (suc n) (λ i s other is there.
    let next : s ≡ n + suc i = omega (arith, is) in each (suc i) s other next there))
    ∙ sym (flat_map-append text_of_record (slots_own n records) rest)
    ∙ ap (flat_map text_of_record) (sym (from_suc n (length slots) records))

-- the text of an event that the node took
pub text_played : (old new : NodeModel) (records records_then : List RecordModel)
    (event : EventModel) → FaultIs (refused_as (length old.slots) old.globals event) (Ok tt)
    → records ≡ [] → ((s : ℕ) → StepsAsAlone old new records records_then event s)
    → flat_map text_of_record (by_slot records_then) ≡ event_text old event
text_played old new records records_then event taken empty steps =
    let admitted = no_fault (refused_as (length old.slots) old.globals event) taken in
    let opening = labelled (length old.slots) (told_opening event) in
    ap (flat_map text_of_record)
    (slots_after_event old new records records_then event taken empty steps)
    ∙ flat_map-append text_of_record (slots_from 0 (length old.slots) records_then) opening
    ∙ ap (λ l. l ++ flat_map text_of_record opening)
    (sym (slots_text_after (setup_of old.config) old.globals event records_then old.slots 0
    (each_after old new records records_then event empty steps)))
    ∙ ap (λ fault. text_unless fault old event) (sym admitted)

-- the text of an event that the node rejected
pub text_refused : (node : NodeModel) (event : EventModel) (refused : Option NodeFault)
    (fault : NodeFault) → FaultIs refused (Err fault) → (fault ≡ OutOfMemory → ⊥)
    → text_of_fault fault ≡ text_unless refused node event
text_refused node event None fault is other = absurd (other is)
text_refused node event (Some own) fault is other = ap text_of_fault is
