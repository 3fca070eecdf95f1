-- A step of a node: what each slot sees of it, and what it adds to the outbox.
-- For the steps and the run of a node in the crate above, and for `AddedSlotLemmas`.
-- By: a step that has its effect on each open slot, and none elsewhere, is as each slot sees it.
use Rattle.std.proofs.Common.{zero, suc, ◌≡◌, ℕ, ◌+◌, take, ◌≤◌, List}
use Rattle.std.proofs.Common.{[], ◌∷◌, ◌++◌, length, map, refl, ◌∙◌, ap, sym}
use Rattle.std.proofs.Common.{arith, append_assoc, Some, None, Option, Result, Ok, Err, OnOk}
use Rattle.std.specs.Prelude.{slice_get, option_map}
use Rattle.std.proofs.lemmas.List.{append-nil}
use Rattle.trdp_model.specs.declared.fault.NodeFault.{NodeFault}
use Rattle.trdp_dataset.specs.Configs.{SlotModel}
use Rattle.trdp_model.specs.Configs.{NodeSetup, setup_of}
use Rattle.trdp_model.specs.Records.{RecordModel, records_of}
use Rattle.trdp_model.specs.Events.{EventModel}
use Rattle.trdp_model.specs.Slots.{SlotState, Outcome, empty_slot, unchanged}
use Rattle.trdp_model.specs.Fitting.{AllFit, EachFits}
use Rattle.trdp_model.specs.Alone.{refused_as, FaultIs, plain_effect, slot_after, records_after}
use Rattle.trdp_model.specs.Alone.{Standing, standing_after, opened_by}
use Rattle.trdp_model.specs.NodeModels.{NodeModel}
use Rattle.trdp_model.specs.NodeModels.{StepsAsAlone, HasOutcome, Appends}
use Rattle.trdp_model.proofs.ViewLemmas.{view_is_plain, standing_open, standing_none}

-- as many slots: the same numbers have none
pub get_past : (slots others : List SlotState) (s : ℕ)
    → length others ≡ length slots → slice_get slots s ≡ None → slice_get others s ≡ None
get_past [] [] s same none = refl
get_past [] (x ∷ others) s same none = absurd (omega (arith, same))
get_past (x ∷ slots) [] s same none = refl
get_past (x ∷ slots) (y ∷ others) zero same none = absurd (cc)
get_past (x ∷ slots) (y ∷ others) (suc s) same none =
    get_past slots others s (omega (arith, same)) none

-- an admitted event whose effect on each open slot is the plain one, and which does nothing
-- elsewhere, is as each number sees it
pub steps_alone : (old new : NodeModel) (records records_then : List RecordModel)
    (event : EventModel)
    → refused_as (length old.slots) old.globals event ≡ None → opened_by event ≡ []
    → length new.slots ≡ length old.slots → Appends old.slots records records_then
    → ((s : ℕ) (slot : SlotState) → slice_get old.slots s ≡ Some slot → HasOutcome new.slots
    records records_then s (plain_effect (setup_of old.config) s slot old.globals event))
    → (s : ℕ) → StepsAsAlone old new records records_then event s
steps_alone old new records records_then event admitted opens same appends outcomes s =
    from (slice_get old.slots s) refl
  where
    stands : Option SlotState → Standing
    stands there = standing_after (setup_of old.config) s (length old.slots) there old.globals event

    by : (there : Option SlotState) → slice_get old.slots s ≡ there
        → slice_get new.slots s ≡ (stands there).slot
        → records_of s records_then ≡ records_of s records ++ (stands there).records
        → StepsAsAlone old new records records_then event s
    by there found slot records_own = record {
      slot_is = rw found slot;
      records_are = rw found records_own;
    }

    from : (there : Option SlotState) → slice_get old.slots s ≡ there
        → StepsAsAlone old new records records_then event s
    from None found =
        let is = standing_none (setup_of old.config) s (length old.slots) old.globals event
        opens in
        let gone = get_past old.slots new.slots s same found in
        by None found (rw is gone)
        (rw (is, append-nil (records_of s records)) (appends.none_else s found))
    from (Some slot) found =
        let has = outcomes s slot found in
        let is = standing_open (setup_of old.config) s (length old.slots) slot old.globals event in
        let plain = view_is_plain (setup_of old.config) s
        (length old.slots) slot old.globals event admitted in
        by (Some slot) found
        (rw is (has.slot_is ∙ ap (λ (o : Outcome). Some o.slot) plain))
        (rw is
        (has.records_are ∙ ap (λ (o : Outcome). records_of s records ++ o.records) plain))

-- the same of a step, which did so where it accepted the event
pub taken_alone : (old new : NodeModel) (records records_then : List RecordModel)
    (event : EventModel) (result : Result (Unit {0}) NodeFault)
    → FaultIs (refused_as (length old.slots) old.globals event) result → opened_by event ≡ []
    → length new.slots ≡ length old.slots → Appends old.slots records records_then
    → OnOk result ((s : ℕ) (slot : SlotState) → slice_get old.slots s ≡ Some slot → HasOutcome
    new.slots records records_then s (plain_effect (setup_of old.config) s slot old.globals event))
    → OnOk result ((s : ℕ) → StepsAsAlone old new records records_then event s)
taken_alone old new records records_then event (Ok done) answer opens same appends outcomes =
    steps_alone old new records records_then event
    (admitted (refused_as (length old.slots) old.globals event) answer) opens same appends outcomes
  where
    admitted : (fault : Option NodeFault) → FaultIs fault (Ok done) → fault ≡ None
    admitted None answer = refl
    admitted (Some fault) answer = absurd answer
taken_alone old new records records_then event (Err fault) answer opens same appends outcomes = tt

-- what a step did to an open slot
pub open_outcome : (old new : NodeModel) (records records_then : List RecordModel)
    (event : EventModel) (s : ℕ) (slot : SlotState) → slice_get old.slots s ≡ Some slot
    → StepsAsAlone old new records records_then event s
    → HasOutcome new.slots records records_then s (record {
      slot = slot_after (setup_of old.config) s slot old.globals event;
      records = records_after (setup_of old.config) s slot old.globals event;
    })
open_outcome old new records records_then event s slot found stepped =
    let is = standing_open (setup_of old.config) s (length old.slots) slot old.globals event in
    record {
      slot_is = rw (found, is) at stepped.slot_is;
      records_are = rw (found, is) at stepped.records_are;
    }

-- what always holds holds where a step accepted its event
pub always : (result : Result (Unit {0}) NodeFault) {P : Type 0} → P → OnOk result P
always (Ok done) p = p
always (Err fault) p = tt

-- slots and records that stay are those of an event without effect
pub unchanged_each : (slots : List SlotState) (records : List RecordModel) (s : ℕ)
    (slot : SlotState) → slice_get slots s ≡ Some slot
    → HasOutcome slots records records s (unchanged slot)
unchanged_each slots records s slot found =
    record { slot_is = found; records_are = sym (append-nil (records_of s records)) }

-- the records of before may be said in another way
pub has_outcome : (slots : List SlotState) (records same records_then : List RecordModel)
    (s : ℕ) (outcome : Outcome) → records ≡ same
    → HasOutcome slots records records_then s outcome → HasOutcome slots same records_then s outcome
has_outcome slots records same records_then s outcome is has = rw (← is) has

pub appends_none : (slots : List SlotState) (records records_then : List RecordModel)
    → records_then ≡ records → Appends slots records records_then
appends_none slots records records_then same = record {
  more = [];
  front = same ∙ sym (append-nil records);
  none_else = λ s none. rw same refl;
}

-- a number that has no slot had none when there were fewer
get_before : (slots others : List SlotState) (s : ℕ)
    → length slots ≤ length others → slice_get others s ≡ None → slice_get slots s ≡ None
get_before [] others s le none = refl
get_before (x ∷ slots) [] s le none = absurd (omega (arith, le))
get_before (x ∷ slots) (y ∷ others) zero le none = absurd (cc)
get_before (x ∷ slots) (y ∷ others) (suc s) le none =
    get_before slots others s (omega (arith, le)) none

-- what is added is added with more slots, too
pub appends_at : (slots others : List SlotState) (xs ys : List RecordModel)
    → length slots ≤ length others → Appends slots xs ys → Appends others xs ys
appends_at slots others xs ys le a = record {
  more = a.more;
  front = a.front;
  none_else = λ s none. a.none_else s (get_before slots others s le none);
}

pub appends_more : (slots others : List SlotState) (xs ys zs : List RecordModel) → length slots
    ≤ length others → Appends slots xs ys → Appends others ys zs → Appends others xs zs
appends_more slots others xs ys zs le a b = record {
  more = a.more ++ b.more;
  front = b.front
      ∙ (ap (λ (rs : List RecordModel). rs ++ b.more) a.front ∙ append_assoc xs a.more b.more);
  none_else = λ s none.
      b.none_else s none ∙ a.none_else s (get_before slots others s le none);
}

-- each slot's values still fit, where its outcome's do
pub outcomes_fit : (setup : NodeSetup) (effect : ℕ → SlotState → Outcome) (old new : List SlotState)
    (records records_then : List RecordModel)
    → length new ≡ length old → ((s : ℕ) (slot : SlotState)
    → slice_get old s ≡ Some slot → HasOutcome new records records_then s (effect s slot))
    → ((s : ℕ) (slot : SlotState) → AllFit setup slot.objects
    → AllFit setup (effect s slot).slot.objects) → EachFits setup old → EachFits setup new
outcomes_fit setup effect old new records records_then same parts keeps fit s
    then is = from (slice_get old s) refl
  where
    from : (there : Option SlotState) → slice_get old s ≡ there → AllFit setup then.objects
    from None none = let gone : Some then ≡ None = sym is
        ∙ get_past old new s same none in absurd (cc)
    from (Some slot) at =
        let both : Some (effect s slot).slot ≡ Some then = sym (parts s slot at).slot_is ∙ is in
        let one : (effect s slot).slot ≡ then = cc in
        rw (← one) (keeps s slot (fit s slot at))

-- slots that were just opened hold nothing
pub opened_fit : (setup : NodeSetup) (slots : List SlotModel)
    → EachFits setup (map (λ slot. empty_slot slot.quotas) slots)
opened_fit setup [] s slot is = absurd (cc)
opened_fit setup (x ∷ slots) zero slot is = let empty :
    empty_slot x.quotas ≡ slot = cc in rw (← empty) tt
opened_fit setup (x ∷ slots) (suc s) slot is = opened_fit setup slots s slot is

-- the quotas of one more slot of a configuration
quotas_next : (slots : List SlotModel) (i : ℕ) (quotas : List ℕ)
    → Some quotas ≡ option_map (λ slot. slot.quotas) (slice_get slots i)
    → map (λ slot. slot.quotas) (take (suc i) slots)
    ≡ map (λ slot. slot.quotas) (take i slots) ++ quotas ∷ []
quotas_next [] i quotas is = absurd (cc)
quotas_next (x ∷ slots) zero quotas is = let same : quotas ≡ x.quotas = cc in rw same refl
quotas_next (x ∷ slots) (suc i) quotas is =
    ap (λ (rest : List (List ℕ)). x.quotas ∷ rest) (quotas_next slots i quotas is)

pub quotas_more : (slots : List SlotModel) (i : ℕ) (quotas : List ℕ)
    → Some quotas ≡ option_map (λ slot. slot.quotas) (slice_get slots i)
    → map (λ slot. slot.quotas) (take (i + 1) slots)
    ≡ map (λ slot. slot.quotas) (take i slots) ++ quotas ∷ []
quotas_more slots i quotas is = let next : i + 1 ≡ suc i = omega arith in
    rw next (quotas_next slots i quotas is)
