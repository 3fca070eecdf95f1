-- One slot of the table was served: what that means for each slot, and for the outbox.
-- For `Node::step_call`, `step_datagram`, `step_moment`, `put_value`, and `parts`.
-- By cases on the number: the slot that was served, or any other, which keeps what it had.
use Rattle.std.proofs.Common.{◌≡◌, ℕ, ◌<◌, List, [], ◌∷◌, length, map, filter, refl}
use Rattle.std.proofs.Common.{arith, inl, inr, ◌∙◌, ap, sym, Some}
use Rattle.std.specs.Prelude.{slice_get, slice_set, ◌==◌, if◌then◌else◌}
use Rattle.std.specs.List.{flat_map}
use Rattle.std.proofs.lemmas.List.{length-set}
use Rattle.std.proofs.lemmas.List.Concat.{length-flat_map}
use Rattle.trdp_dataset.specs.Configs.{SlotModel}
use Rattle.trdp_table.specs.Tables.{TableState, opened_slot as opened_slot_table}
use Rattle.trdp_table.specs.Tables.{all_quotas, room_of}
use Rattle.trdp_model.specs.Slots.{Entry, SlotState, Outcome, unchanged, empty_slot}
use Rattle.trdp_store.specs.TableSlots.{slots_of}
use Rattle.trdp_outbox.specs.Outboxes.{OutboxState}
use Rattle.trdp_model.specs.NodeModels.{HasOutcome, Appends, due_in}
use Rattle.trdp_model.specs.Moments.{is_due}
use Rattle.trdp_outbox.specs.Rooms.{LacksRoom, entries_room, moment_room}
use Rattle.trdp_store.specs.Acting.{slot_at, Becomes}
use Rattle.trdp_store.proofs.StoreLemmas.Slots.{slots_length, slot_there}
use Rattle.trdp_model.proofs.SweepLemmas.{one_part, one_appends}
use Rattle.trdp_datagrams.specs.Meant.{quota_total}
use Rattle.trdp_datagrams.proofs.CostLemmas.Acts.{count_set}
use Rattle.trdp_datagrams.proofs.CostLemmas.Telegrams.{total_room}

-- as many slots as before
pub became_count :
    (s : ℕ) (outcome : Outcome) (table table_then : TableState) (out out_then : OutboxState)
    → Becomes s outcome table table_then out out_then
    → length (slots_of table_then) ≡ length (slots_of table)
became_count s outcome table table_then out out_then is = ap length is.slots
    ∙ length-set (slots_of table) s outcome.slot

pub same_count : (table table_then : TableState)
    → length table_then ≡ length table → length (slots_of table_then) ≡ length (slots_of table)
same_count table table_then same = slots_length table_then ∙ (same ∙ sym (slots_length table))

-- the room stays, if the quotas of the slot do
pub became_room :
    (s : ℕ) (outcome : Outcome) (table table_then : TableState) (out out_then : OutboxState)
    → s < length table → outcome.slot.quotas ≡ (slot_at s table).quotas
    → Becomes s outcome table table_then out out_then → room_of table_then ≡ room_of table
became_room s outcome table table_then out out_then lt same is =
    let sums = count_set (λ (slot : SlotState). all_quotas slot.quotas)
    (slots_of table) s (slot_at s table) outcome.slot (slot_there table s lt) in
    let own : all_quotas outcome.slot.quotas ≡ all_quotas (slot_at s table).quotas =
    ap all_quotas same in
    let stays :
    quota_total (slice_set (slots_of table) s outcome.slot) ≡ quota_total (slots_of table) =
    omega (arith, sums, own) in
    sym (total_room table_then) ∙ (ap quota_total is.slots ∙ (stays ∙ total_room table))

-- each slot has its outcome: the one that was served its own, the others none
pub became_parts :
    (f : SlotState → Outcome) (s : ℕ) (table table_then : TableState) (out out_then : OutboxState)
    → s < length table → Becomes s (f (slot_at s table)) table table_then out out_then
    → (r : ℕ) (slot : SlotState) → slice_get (slots_of table) r ≡ Some slot → HasOutcome
    (slots_of table_then) out.records out_then.records r (if s == r then f slot else unchanged slot)
became_parts f s table table_then out out_then lt is r slot there =
    rw (is.slots, is.records) (one_part f (slots_of table)
    s (slot_at s table) out.records (slot_there table s lt) r slot there)

-- the old records come first, and none is added for a number without slot
pub became_appends :
    (f : SlotState → Outcome) (s : ℕ) (table table_then : TableState) (out out_then : OutboxState)
    → s < length table → Becomes s (f (slot_at s table)) table table_then out out_then
    → Appends (slots_of table) out.records out_then.records
became_appends f s table table_then out out_then lt is =
    rw is.records
    (one_appends f (slots_of table) s (slot_at s table) out.records (slot_there table s lt))

-- the slots of a new table are empty
opened_each : (slots : List SlotModel)
    → slots_of (map opened_slot_table (map (λ slot. slot.quotas) slots))
    ≡ map (λ slot. empty_slot slot.quotas) slots
opened_each [] = refl
opened_each (x ∷ slots) =
    ap (λ (rest : List SlotState). empty_slot x.quotas ∷ rest) (opened_each slots)

pub opened_slots : (table : TableState) (quotas : List (List ℕ))
    (slots : List SlotModel) → table ≡ map opened_slot_table quotas
    → quotas ≡ map (λ slot. slot.quotas) slots
    → slots_of table ≡ map (λ slot. empty_slot slot.quotas) slots
opened_slots table quotas slots is are = rw (is, are) (opened_each slots)

-- where room is missing at a moment, something is due
pub lacks_due : (t : ℕ) (slots : List SlotState) (out : OutboxState)
    → LacksRoom out (moment_room t slots) → 0 < due_in t slots
lacks_due t slots out lacks = rw (← length-flat_map (λ slot. filter (is_due t) slot.objects) slots)
    (some (flat_map (λ slot. filter (is_due t) slot.objects) slots) lacks)
  where
    some : (entries : List Entry) → LacksRoom out (entries_room entries) → 0 < length entries
    some [] (inl lt) = absurd (omega (arith, lt))
    some [] (inr lt) = absurd (omega (arith, lt))
    some (e ∷ entries) lacks = omega arith
