-- How a call at one object changes the table and the outbox.
-- For `ask`, `put_value` and `serve_slot`, and for what the engine passes on.
-- By: the handle has an object, which acts, or has none, which is recorded.
use Rattle.std.proofs.Common.{◌≡◌, ℕ, ◌<◌, List, [], ◌∷◌, ◌++◌, length, Option, Some}
use Rattle.std.proofs.Common.{None, Bool, true, false, refl, ◌∙◌, sym, ap, subst, arith}
use Rattle.std.proofs.Common.{is_some, IfNone}
use Rattle.std.specs.Prelude.{◌==◌}
use Rattle.std.proofs.lemmas.Bool.Decides.{nat_tests}
use Rattle.std.proofs.lemmas.Option.{same_Some}
use Rattle.std.proofs.lemmas.List.Concat.{flat_map-cons}
use Rattle.trdp_marshal.specs.Items.{ItemModel}
use Rattle.trdp_model.specs.declared.any_object.AnyObject.{AnyObject}
use Rattle.trdp_table.specs.Tables.{TableState}
use Rattle.trdp_model.specs.declared.fault.Refusal.{Refusal}
use Rattle.trdp_model.specs.declared.fault.Refusal.TheVariants.{NoHandle}
use Rattle.trdp_model.specs.Records.{Content, RefusedIs, Answers, labelled}
use Rattle.trdp_model.specs.Slots.{Entry, SlotState, entry_under}
use Rattle.trdp_store.specs.declared.deed.Left.{Left}
use Rattle.trdp_store.specs.declared.deed.Left.TheVariants.{Stays, Ended}
use Rattle.trdp_model.specs.Acts.{Act, left_at, acted}
use Rattle.trdp_model.specs.Calls.{at_object, at_entry, told_unless}
use Rattle.trdp_model.specs.Openings.{refused}
use Rattle.trdp_model.specs.Configs.{NodeSetup}
use Rattle.trdp_model.proofs.ActedLemmas.{acted-same}
use Rattle.trdp_model.proofs.HandleLemmas.{IsRising}
use Rattle.trdp_model.specs.Values.{item_refusal, takes_item, valued}
use Rattle.trdp_outbox.specs.Outboxes.{OutboxState}
use Rattle.trdp_store.specs.Acting.{slot_at, Becomes}
use Rattle.trdp_store.proofs.StoreLemmas.Slots.{slots_kept}

-- what didn't end stays
pub stayed : (left : Left) → (left ≡ Ended → ⊥) → left ≡ Stays
stayed Stays not = refl
stayed Ended not = absurd (not refl)

-- no object has the handle
pub asked_nobody :
    (table : TableState) (s h : ℕ) (act : AnyObject → Act) (out out_then : OutboxState)
    → s < length table → entry_under h (slot_at s table).objects ≡ None
    → out_then.records ≡ out.records ++ labelled s (Answers (RefusedIs NoHandle) ∷ [])
    → Becomes s (at_object (slot_at s table) h act) table table out out_then
asked_nobody table s h act out out_then lt none records =
    rw none (record { slots = sym (slots_kept table s lt); records = records })

no_entry : (o : Option Entry) → false ≡ is_some o → o ≡ None
no_entry None is = refl
no_entry (Some e) is = absurd (cc)

-- there is no object of the handle: nothing was done, and the call is refused
pub deed_refused : {A : Type 0} (s h : ℕ) (act : AnyObject → Act) (table table_then : TableState)
    (out out_then out_last : OutboxState) (did : Option A) → s < length table
    → is_some did ≡ false → is_some did ≡ is_some (entry_under h (slot_at s table).objects)
    → IfNone did (table_then ≡ table) → IfNone did (out_then ≡ out)
    → out_last.records ≡ out_then.records ++ labelled s (Answers (RefusedIs NoHandle) ∷ [])
    → Becomes s (at_object (slot_at s table) h act) table table_then out out_last
deed_refused s h act table table_then out out_then out_last (Some did) lt none found kept still
    records = absurd (cc)
deed_refused s h act table table_then out out_then out_last None lt none found kept still records =
    subst (λ (t : TableState). Becomes s (at_object (slot_at s table) h act) table t out out_last)
    (sym kept)
    (asked_nobody table s h act out out_last lt
    (no_entry (entry_under h (slot_at s table).objects) found) (rw still at records))

-- an item that has no bytes is refused
pub valued_refused :
    (setup : NodeSetup) (item : ItemModel) (slot : SlotState) (h : ℕ) (refusal : Refusal)
    → IsRising slot.objects → item_refusal setup item (entry_under h slot.objects) ≡ Some refusal
    → valued setup slot h item ≡ refused slot refusal
valued_refused setup item slot h refusal rising is = either (entry_under h slot.objects) refl is
  where
    either : (o : Option Entry) → entry_under h slot.objects ≡ o → item_refusal setup item o
        ≡ Some refusal → at_entry o slot h (takes_item setup item) ≡ refused slot refusal
    either None at is = ap (refused slot) (same_Some NoHandle refusal is)
    either (Some entry) at is =
        let keeps : record slot { objects = acted h (Some entry.object) slot.objects } ≡ slot =
        ap (λ (es : List Entry). let x : SlotState = record slot { objects = es } in
        x) (acted-same h entry slot.objects rising at)
        in
        rw is (ap (λ (x : SlotState). refused x refusal) keeps)

pub asked_refused : (setup : NodeSetup) (item : ItemModel)
    (table : TableState) (s h : ℕ) (refusal : Refusal) (out out_then : OutboxState)
    → s < length table → IsRising (slot_at s table).objects
    → item_refusal setup item (entry_under h (slot_at s table).objects) ≡ Some refusal
    → out_then.records ≡ out.records ++ labelled s (Answers (RefusedIs refusal) ∷ [])
    → Becomes s (valued setup (slot_at s table) h item) table table out out_then
asked_refused setup item table s h refusal out out_then lt rising is records =
    rw (valued_refused setup item (slot_at s table) h refusal rising is)
    (record { slots = sym (slots_kept table s lt); records = records })

-- A call that concerns no object.

told_slot : (refusal : Option Refusal) (slot : SlotState) (records : List Content)
    → (told_unless refusal slot records).slot ≡ slot
told_slot (Some refusal) slot records = refl
told_slot None slot records = refl

pub told_becomes : (table : TableState) (s : ℕ) (refusal : Option Refusal)
    (records : List Content) (out out_then : OutboxState) → s < length table → out_then.records
    ≡ out.records ++ labelled s (told_unless refusal (slot_at s table) records).records
    → Becomes s (told_unless refusal (slot_at s table) records) table table out out_then
told_becomes table s refusal records out out_then lt told = record {
  slots = rw (told_slot refusal (slot_at s table) records) (sym (slots_kept table s lt));
  records = told;
}
