-- Each object stays of the kind that the table records for it, so that the table counts for quotas
-- what the slots' model counts.
-- For `Store::new`, `add`, `act`, `remove`, `reset`, `refuses` and `usage`.
-- By: an act keeps an object's kind, and a new object is recorded under its own.
use Rattle.std.proofs.Common.{◌≡◌, ℕ, zero, suc, ◌<◌, List, [], ◌∷◌, ◌++◌, length, map}
use Rattle.std.proofs.Common.{filter, not, Some, None, Bool, true, false, cond}
use Rattle.std.proofs.Common.{refl, ◌∙◌, sym, ap, subst, arith}
use Rattle.std.specs.Prelude.{◌==◌, option_map, slice_index, nat_le, nat_lt, if◌then◌else◌}
use Rattle.std.proofs.lemmas.List.{get_or-set_same, get_or-set_other}
use Rattle.std.proofs.lemmas.List.Sums.{sum_by-cons}
use Rattle.std.proofs.lemmas.Bool.Decides.{nat_tests}
use Rattle.std.proofs.lemmas.Option.{same_Some}
use Rattle.trdp_model.specs.declared.any_object.AnyObject.{AnyObject}
use Rattle.trdp_model.specs.declared.kind.Kind.{Kind}
use Rattle.trdp_table.specs.declared.fault.TableFault.TheVariants.{Quota as UsedUp}
use Rattle.trdp_table.specs.declared.fault.TableFault.TheVariants.{Exhausted as NoHandleLeft}
use Rattle.trdp_model.specs.Kinds.{kind_of, kind_index, is_same_kind}
use Rattle.trdp_table.specs.Tables.{Keyed, SlotTable, TableState, opened_slot, slot_in, by_handle}
use Rattle.trdp_table.specs.Tables.{count_of as keyed_count, refusal, last_handle, new_object}
use Rattle.trdp_table.specs.Tables.{with_object as with_keyed, without_handle, changed_at, Adds}
use Rattle.trdp_table.specs.Tables.{without_objects}
use Rattle.trdp_table.specs.Tables.{exchanged, other_by_handle, with_other_by_handle}
use Rattle.trdp_table.specs.TableLaws.{AllAbove, HandlesRise, IsTable}
use Rattle.trdp_model.specs.declared.fault.Refusal.TheVariants.{Quota, Exhausted}
use Rattle.trdp_model.specs.Slots.{Entry, kind_count}
use Rattle.trdp_store.specs.TableSlots.{entry_of_keyed}
use Rattle.trdp_model.specs.Openings.{opening_refusal}
use Rattle.trdp_table.specs.Refusals.{table_refusal}
use Rattle.trdp_store.specs.Acting.{slot_at}
use Rattle.trdp_store.specs.OfKind.{AreOfKind, AllOfKind}
use Rattle.trdp_store.proofs.StoreLemmas.Slots.{ExchangesAlone, IsReached}
use Rattle.trdp_store.proofs.StoreLemmas.Found.{at_each}

-- What the recorded kinds are used for.

counted_alike : (kind : Kind) (ks : List Keyed) → AreOfKind ks
    → keyed_count kind ks ≡ kind_count kind (map entry_of_keyed ks)
counted_alike kind [] are = refl
counted_alike kind (k ∷ ks) are =
    let noted = sum_by-cons (λ (x : Keyed). cond {A = ℕ} (is_same_kind x.kind kind) 1 0) k ks in
    let is = sum_by-cons (λ (x : Entry). cond {A = ℕ} (is_same_kind (kind_of x.object) kind) 1 0)
    (entry_of_keyed k) (map entry_of_keyed ks) in
    let same = ap (λ (of : Kind). cond {A = ℕ} (is_same_kind of kind) 1 0) are.0 in
    omega (arith, noted, is, same, counted_alike kind ks are.1)

-- the table counts the objects of a slot's kind as the slot's model does
pub slot_counted : (table : TableState) (s : ℕ) (kind : Kind) → AllOfKind table
    → keyed_count kind (slot_in s table).objects ≡ kind_count kind (slot_at s table).objects
slot_counted table s kind are = counted_alike kind (slot_in s table).objects (are s)

-- the table refuses a new object where the slot's model does
pub refused_alike : (table : TableState) (s : ℕ) (kind : Kind) → AllOfKind table
    → option_map table_refusal (refusal (slot_in s table) kind)
    ≡ opening_refusal (slot_at s table) kind
refused_alike table s kind are =
    rw (counted_alike kind (slot_in s table).objects (are s))
    (either (nat_le (slice_index (slot_in s table).quotas (kind_index kind))
    (kind_count kind (slot_at s table).objects)) (nat_lt last_handle (slot_in s table).next))
  where
    either : (full last : Bool) → option_map table_refusal
        (if full then Some UsedUp else if last then Some NoHandleLeft else None)
        ≡ (if full then Some Quota else if last then Some Exhausted else None)
    either true last = refl
    either false true = refl
    either false false = refl

-- How they stay.

of_kind-push : (ks : List Keyed) (k : Keyed)
    → AreOfKind ks → k.kind ≡ kind_of k.object → AreOfKind (ks ++ k ∷ [])
of_kind-push [] k are is = (is, tt)
of_kind-push (x ∷ ks) k are is = (are.0, of_kind-push ks k are.1 is)

of_kind-without : (h : ℕ) (ks : List Keyed)
    → AreOfKind ks → AreOfKind (filter (λ keyed. not (keyed.handle == h)) ks)
of_kind-without h [] are = tt
of_kind-without h (k ∷ ks) are = either (k.handle == h) refl (of_kind-without h ks are.1)
  where
    either : (b : Bool) → (k.handle == h) ≡ b
        → AreOfKind (filter (λ keyed. not (keyed.handle == h)) ks)
        → AreOfKind (filter (λ keyed. not (keyed.handle == h)) (k ∷ ks))
    either true is rest = rw is rest
    either false is rest = rw is (are.0, rest)

-- no object of a greater handle becomes another one
of_kind-above : (h : ℕ) (w : AnyObject) (ks : List Keyed)
    → AllAbove h ks → AreOfKind ks → AreOfKind (map (other_by_handle h w) ks)
of_kind-above h w [] above are = tt
of_kind-above h w (k ∷ ks) above are =
    let lt : h < k.handle = above.0 in
    let is : (k.handle == h) ≡ false = grind (arith, nat_tests) in
    rw is (are.0, of_kind-above h w ks above.1 are.1)

of_kind-other : (h : ℕ) (w : AnyObject) (was : Keyed) (ks : List Keyed)
    → HandlesRise ks → by_handle h ks ≡ Some was → kind_of w ≡ kind_of was.object
    → AreOfKind ks → AreOfKind (map (other_by_handle h w) ks)
of_kind-other h w was [] rising at same are = tt
of_kind-other h w was (k ∷ ks) rising at same are =
    either (k.handle == h) refl at (λ there. of_kind-other h w was ks rising.1 there same are.1)
  where
    either : (b : Bool) → (k.handle == h) ≡ b → by_handle h (k ∷ ks) ≡ Some was
        → (by_handle h ks ≡ Some was → AreOfKind (map (other_by_handle h w) ks))
        → AreOfKind (map (other_by_handle h w) (k ∷ ks))
    either true is at rest =
        let it : k ≡ was = same_Some k was (rw is at at) in
        let own : k.handle ≡ h = grind (arith, nat_tests) in
        rw is (
          are.0 ∙ (ap (λ (x : Keyed). kind_of x.object) it ∙ sym same),
          of_kind-above h w ks (subst (λ (n : ℕ). AllAbove n ks) own rising.0) are.1,
        )
    either false is at rest = rw is (are.0, rest (rw is at at))

changed_kinds : (table : TableState) (s : ℕ) (change : SlotTable → SlotTable)
    → s < length table → AllOfKind table → AreOfKind (change (slot_in s table)).objects
    → AllOfKind (changed_at s change table)
changed_kinds table s change lt are here =
    at_each (λ t. AreOfKind (slot_in t (changed_at s change table)).objects) s
    (subst (λ (x : SlotTable). AreOfKind x.objects) (sym (get_or-set_same
    table s (change (slot_in s table)) (opened_slot []) lt)) here)
    (λ t apart. subst (λ (x : SlotTable). AreOfKind x.objects) (sym (get_or-set_other
    table s t (change (slot_in s table)) (opened_slot []) apart)) (are t))

-- a new table has no objects
pub new_kinds : (quotas : List (List ℕ)) → AllOfKind (map opened_slot quotas)
new_kinds [] s = tt
new_kinds (q ∷ quotas) zero = tt
new_kinds (q ∷ quotas) (suc s) = new_kinds quotas s

-- a new object counts for its own kind
pub added_kinds : (table table_then : TableState) (s : ℕ) (object : AnyObject) → s < length table
    → Adds s object table table_then → AllOfKind table → AllOfKind table_then
added_kinds table table_then s object lt a are =
    subst AllOfKind (sym a.table)
    (changed_kinds table s (with_keyed a.key object) lt are (of_kind-push (slot_in s table).objects
    (new_object (slot_in s table).next a.key object) (are s) refl))

pub removed_kinds : (table : TableState) (s h : ℕ)
    → s < length table → AllOfKind table → AllOfKind (changed_at s (without_handle h) table)
removed_kinds table s h lt are =
    changed_kinds table s (without_handle h) lt are
    (of_kind-without h (slot_in s table).objects (are s))

-- a slot without objects has none of another kind
pub emptied_kinds : (table : TableState) (s : ℕ)
    → s < length table → AllOfKind table → AllOfKind (changed_at s without_objects table)
emptied_kinds table s lt are = changed_kinds table s without_objects lt are tt

-- an object that was reached by its handle becomes another one of its kind
pub reached_kinds : (table : TableState) (s h key : ℕ) (object object_then : AnyObject)
    → AllOfKind table → IsTable table → s < length table → ExchangesAlone table
    → IsReached table s h key object → kind_of object_then ≡ kind_of object
    → AllOfKind (exchanged key table object_then)
reached_kinds table s h key object object_then are sound lt exchanges r kind =
    let is_then : exchanged key table object_then
    ≡ changed_at s (with_other_by_handle h object_then) table =
    ap (λ (k : ℕ). exchanged k table object_then) r.key_is
    ∙ exchanges s h r.keyed object_then r.found in
    subst AllOfKind (sym is_then)
    (changed_kinds table s (with_other_by_handle h object_then) lt are
    (of_kind-other h object_then r.keyed (slot_in s table).objects
    (sound.slots s).rising r.found (kind ∙ ap kind_of r.object_is) (are s)))
