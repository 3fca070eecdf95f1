-- How an act of the object of a handle changes the table.
-- For `Store::act`.
-- By: the object that the handle reached is another one then, or is gone.
use Rattle.std.proofs.Common.{◌≡◌, ℕ, ◌<◌, ◌++◌, length, Some}
use Rattle.std.proofs.Common.{None}
use Rattle.trdp_model.specs.declared.any_object.AnyObject.{AnyObject}
use Rattle.trdp_table.specs.Tables.{TableState, without_handle, changed_at, exchanged}
use Rattle.trdp_model.specs.Records.{labelled}
use Rattle.trdp_model.specs.Acts.{Act}
use Rattle.trdp_model.specs.Calls.{at_object}
use Rattle.trdp_outbox.specs.Outboxes.{OutboxState}
use Rattle.trdp_store.specs.Acting.{slot_at, Becomes}
use Rattle.trdp_store.proofs.StoreLemmas.Slots.{ExchangesAlone, IsReached}
use Rattle.trdp_store.proofs.StoreLemmas.Slots.{reached_entry, reached_touched, reached_removed}

-- the object of the handle stays, as another one
pub asked_stays : (table : TableState) (s h key : ℕ)
    (object object_then : AnyObject) (act : AnyObject → Act) (out out_then : OutboxState)
    → ExchangesAlone table → IsReached table s h key object → Some object_then ≡ (act object).left
    → out_then.records ≡ out.records ++ labelled s (act object).records → Becomes s
    (at_object (slot_at s table) h act) table (exchanged key table object_then) out out_then
asked_stays table s h key object object_then act out out_then alone r left records =
    rw (reached_entry table s h key object r, ← r.object_is, ← left)
    (record { slots = reached_touched table s h key object object_then alone r; records = records })

-- the object of the handle ended
pub asked_ended : (table : TableState) (s h key : ℕ) (object object_then : AnyObject)
    (act : AnyObject → Act) (out out_then : OutboxState) → s < length table → ExchangesAlone table
    → IsReached table s h key object → None ≡ (act object).left → out_then.records
    ≡ out.records ++ labelled s (act object).records → Becomes s (at_object (slot_at s table) h act)
    table (changed_at s (without_handle h) (exchanged key table object_then)) out out_then
asked_ended table s h key object object_then act out out_then lt alone r left records =
    rw (reached_entry table s h key object r, ← r.object_is, ← left)
    (record
    { slots = reached_removed table s h key object object_then lt alone r; records = records })
