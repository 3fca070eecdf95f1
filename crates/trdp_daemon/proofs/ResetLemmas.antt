-- A slot that is reset has its answer.
-- For `take_reset`.
-- By cases: a slot that is there sees the call, whose answer is a record.
use Rattle.std.proofs.Common.{◌≡◌, ◌<◌, ◌≤◌, ℕ, zero, suc, List, [], ◌∷◌, length, Some}
use Rattle.std.proofs.Common.{refl, Err, arith, true}
use Rattle.std.specs.Prelude.{◌==◌, nat_le, slice_get}
use Rattle.std.proofs.lemmas.Bool.Decides.{nat_tests}
use Rattle.trdp_model.specs.Alone.{FaultIs, records_after, refused_as}
use Rattle.trdp_model.specs.Configs.{setup_of}
use Rattle.trdp_model.specs.declared.fault.NodeFault.TheVariants.{NoSlot}
use Rattle.trdp_model.specs.Events.{CallIs, ResetCall}
use Rattle.trdp_model.specs.NodeModels.{NodeModel, StepsAsAlone}
use Rattle.trdp_model.specs.Records.{RecordModel, labelled}
use Rattle.trdp_model.specs.Slots.{SlotState}
use Rattle.trdp_outbox.specs.SlotOrder.{slots_own}
use Rattle.trdp_outbox.proofs.SlotOrderLemmas.Played.{each_after}

-- a slot that is there
slot_at : (slots : List SlotState) (s : ℕ) → s < length slots
    → (slot : SlotState) × (slice_get slots s ≡ Some slot)
slot_at [] s there = absurd (omega (arith, there))
slot_at (slot ∷ slots) zero there = (slot, refl)
slot_at (slot ∷ slots) (suc s) there = slot_at slots s (omega (arith, there))

-- one that isn't has a fault
pub not_there : (node : NodeModel) (s : ℕ) → length node.slots ≤ s
    → FaultIs (refused_as (length node.slots) node.globals (CallIs s ResetCall)) (Err NoSlot)
not_there node s past =
    let refused : nat_le (length node.slots) s ≡ true = grind (arith, nat_tests) in
    rw refused refl

-- the answer to one that is there is offered
pub reset_told : (old new : NodeModel) (records records_then : List RecordModel) (s : ℕ)
    → s < length old.slots → records ≡ []
    → ((r : ℕ) → StepsAsAlone old new records records_then (CallIs s ResetCall) r)
    → 0 < length records_then
reset_told old new records records_then s there empty steps =
    let found = slot_at old.slots s there in
    told found.0 records_then
    (each_after old new records records_then (CallIs s ResetCall) empty steps s s found.0
    (omega arith) found.1)
  where
    same : (s == s) ≡ true
    same = grind (arith, nat_tests)

    told : (slot : SlotState) (rs : List RecordModel)
        → labelled s (records_after (setup_of old.config) s slot old.globals (CallIs s ResetCall))
        ≡ slots_own s rs
        → 0 < length rs
    told slot [] is = let none = rw same at is in absurd (cc)
    told slot (r ∷ rs) is = omega arith
