-- An event's way through a node with any number of slots.
-- For a script's `play`, and for the daemon's `take_event`.
-- By induction on the slots: each gets its own records, and one that is opened comes last.
use Rattle.std.proofs.Common.{◌≡◌, zero, suc, ◌+◌, ◌≤◌, ℕ, true, false}
use Rattle.std.proofs.Common.{List, [], ◌∷◌, ◌++◌, length, Some, None, Ok, Option}
use Rattle.std.proofs.Common.{refl, sym, ◌∙◌, ap, arith}
use Rattle.std.specs.Prelude.{◌==◌, slice_get, if◌then◌else◌}
use Rattle.std.proofs.lemmas.Bool.Decides.{nat_tests}
use Rattle.std.proofs.lemmas.Option.{slice_get_past}
use Rattle.trdp_model.specs.Configs.{NodeSetup, setup_of}
use Rattle.trdp_filter.specs.declared.globals.Globals.{Globals}
use Rattle.trdp_model.specs.declared.fault.NodeFault.{NodeFault}
use Rattle.trdp_model.specs.Events.{EventModel}
use Rattle.trdp_model.specs.Records.{RecordModel, labelled, records_of}
use Rattle.trdp_model.specs.Slots.{SlotState}
use Rattle.trdp_model.specs.Alone.{FaultIs, refused_as, globals_after, records_after}
use Rattle.trdp_model.specs.Alone.{Standing, opened_by, standing_after, told_opening}
use Rattle.trdp_model.specs.NodeModels.{NodeModel, slots_after, node_after, node_unless}
use Rattle.trdp_model.specs.NodeModels.{StepsAsAlone}
use Rattle.trdp_model.proofs.AddedSlotLemmas.{lists_same, opened_at, told_opened}
use Rattle.trdp_model.proofs.StepLemmas.{open_outcome}
use Rattle.trdp_model.proofs.ViewLemmas.{standing_open}
use Rattle.trdp_outbox.specs.SlotOrder.{by_slot, slots_from, slots_own}
use Rattle.trdp_outbox.proofs.SlotOrderLemmas.Labels.{own_labelled}
use Rattle.trdp_outbox.proofs.SlotOrderLemmas.Slots.{by_slot_within, from_last}

-- what is at each number after an event that the node takes
after_at : (setup : NodeSetup) (g : Globals) (event : EventModel) (n k : ℕ) (olds : List SlotState)
    → n ≡ k + length olds → refused_as n g event ≡ None → (i s : ℕ) → s ≡ k + i
    → slice_get (slots_after setup g event k olds ++ opened_by event) i
    ≡ (standing_after setup s n (slice_get olds i) g event).slot
after_at setup g event n k [] count admitted i s is =
    let same : s ≡ n + i = omega (arith, count, is) in
    opened_at setup n g event admitted i
    ∙ ap (λ t. (standing_after setup t n None g event).slot) (sym same)
after_at setup g event n k (x ∷ xs) count admitted zero s is =
    let same : s ≡ k = omega (arith, is) in
    sym (ap (λ (there : Standing). there.slot) (standing_open setup k n x g event))
    ∙ ap (λ t. (standing_after setup t n (Some x) g event).slot) (sym same)
after_at setup g event n k (x ∷ xs) count admitted (suc i) s is =
    after_at setup g event n (suc k) xs (omega (arith, count)) admitted i s (omega (arith, is))

-- the slots after an event, of which each number says what is there
slots_same : (old new : NodeModel) (records records_then : List RecordModel) (event : EventModel)
    → refused_as (length old.slots) old.globals event ≡ None
    → ((s : ℕ) → StepsAsAlone old new records records_then event s)
    → new.slots
    ≡ slots_after (setup_of old.config) old.globals event 0 old.slots ++ opened_by event
slots_same old new records records_then event admitted steps =
    lists_same new.slots _ (λ i. (steps i).slot_is
    ∙ sym (after_at (setup_of old.config) old.globals event (length old.slots) 0 old.slots
    (omega arith) admitted i i (omega arith)))

-- no fault, where the node took the event
pub no_fault : (fault : Option NodeFault) → FaultIs fault (Ok tt) → fault ≡ None
no_fault None is = refl
no_fault (Some fault) is = absurd is

-- the node after an event that it took
pub node_played : (old new : NodeModel) (records records_then : List RecordModel)
    (event : EventModel) → FaultIs (refused_as (length old.slots) old.globals event) (Ok tt)
    → new.config ≡ old.config → new.globals ≡ globals_after old.globals event
    → ((s : ℕ) → StepsAsAlone old new records records_then event s)
    → new ≡ node_after old event
node_played old new records records_then event taken config globals steps =
    let slots = slots_same old new records records_then event
    (no_fault (refused_as (length old.slots) old.globals event) taken) steps in
    ap (λ c. let n : NodeModel = record {
      config = c;
      globals = new.globals;
      slots = new.slots;
    } in n) config
    ∙ ap (λ g. let n : NodeModel = record {
      config = old.config;
      globals = g;
      slots = new.slots;
    } in n) globals
    ∙ ap (λ l. let n : NodeModel = record {
      config = old.config;
      globals = globals_after old.globals event;
      slots = l;
    } in n) slots
    ∙ ap (λ fault. node_unless fault old event)
    (sym (no_fault (refused_as (length old.slots) old.globals event) taken))

-- the records of an open slot
own_after : (old new : NodeModel) (records records_then : List RecordModel) (event : EventModel)
    (s : ℕ) (slot : SlotState) → records ≡ [] → StepsAsAlone old new records records_then event s
    → slice_get old.slots s ≡ Some slot
    → records_of s records_then ≡ records_after (setup_of old.config) s slot old.globals event
own_after old new records records_then event s slot empty step there =
    (open_outcome old new records records_then event s slot there step).records_are
    ∙ ap (λ l. records_of s l ++ records_after (setup_of old.config) s slot old.globals event) empty

-- those of a number past the last slot: that a slot is opened there
past_after : (old new : NodeModel) (records records_then : List RecordModel) (event : EventModel)
    (s : ℕ) → records ≡ [] → refused_as (length old.slots) old.globals event ≡ None
    → StepsAsAlone old new records records_then event s → length old.slots ≤ s
    → records_of s records_then ≡ (if s == length old.slots then told_opening event else [])
past_after old new records records_then event s empty admitted step past =
    let none : slice_get old.slots s ≡ None = slice_get_past old.slots s past in
    step.records_are
    ∙ rw (empty, none) (told_opened (setup_of old.config) s (length old.slots)
    old.globals event admitted)

-- the records of an event slot by slot: those of the slots, and then of the one that it opens
pub slots_after_event : (old new : NodeModel) (records records_then : List RecordModel)
    (event : EventModel) → FaultIs (refused_as (length old.slots) old.globals event) (Ok tt)
    → records ≡ [] → ((s : ℕ) → StepsAsAlone old new records records_then event s)
    → by_slot records_then ≡ slots_from 0 (length old.slots) records_then
    ++ labelled (length old.slots) (told_opening event)
slots_after_event old new records records_then event taken empty steps =
    let admitted = no_fault (refused_as (length old.slots) old.globals event) taken in
    let m = length old.slots in
    let first : 0 + m ≡ m = omega arith in
    let here : (m == m) ≡ true = grind (arith, nat_tests) in
    let low : m ≤ m = omega arith in
    let opening : records_of m records_then ≡ told_opening event =
    past_after old new records records_then event m empty admitted (steps m) low
    ∙ ap (λ b. if b then told_opening event else []) here in
    sym (by_slot_within (suc m) records_then (λ s past.
    let high : m ≤ s = omega (arith, past) in
    let other : (s == m) ≡ false = grind (arith, nat_tests) in
    sym (own_labelled s records_then)
    ∙ ap (labelled s) (past_after old new records records_then event s empty admitted (steps s) high
    ∙ ap (λ b. if b then told_opening event else []) other)))
    ∙ from_last m 0 records_then
    ∙ ap (λ l. slots_from 0 m records_then ++ l) (ap (λ s. slots_own s records_then) first
    ∙ sym (own_labelled m records_then) ∙ ap (labelled m) opening)

-- what each slot is given is its own records
pub each_after : (old new : NodeModel) (records records_then : List RecordModel)
    (event : EventModel) → records ≡ []
    → ((s : ℕ) → StepsAsAlone old new records records_then event s)
    → (i s : ℕ) (slot : SlotState) → s ≡ 0 + i → slice_get old.slots i ≡ Some slot
    → labelled s (records_after (setup_of old.config) s slot old.globals event)
    ≡ slots_own s records_then
each_after old new records records_then event empty steps i s slot is there =
    let same : i ≡ s = omega (arith, is) in
    let here : slice_get old.slots s ≡ Some slot = ap (slice_get old.slots) (sym same) ∙ there in
    ap (labelled s) (sym (own_after old new records records_then event s slot empty (steps s) here))
    ∙ own_labelled s records_then
