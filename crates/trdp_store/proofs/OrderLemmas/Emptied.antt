-- The objects of a slot leave the table and the schedule one by one.
-- For `take_at` and `take_all`, by which `Store::reset` empties a slot.
-- By: each is found by its handle, and a slot that loses all objects may lose one of them before.
use Rattle.std.proofs.Common.{◌≡◌, ℕ, zero, suc, ◌+◌, ◌-◌, ◌*◌, ◌<◌, ◌≤◌, List, [], ◌∷◌, length}
use Rattle.std.proofs.Common.{set, filter, not}
use Rattle.std.proofs.Common.{Option, Some, None, true, is_some, refl, ◌∙◌, sym, ap, arith}
use Rattle.std.specs.Prelude.{◌==◌, IfSome, slice_get, option_map}
use Rattle.std.proofs.lemmas.List.{get_or-set_same, length-set, set-set}
use Rattle.std.proofs.lemmas.Option.{same_Some, none-some}
use Rattle.trdp_model.specs.declared.any_object.AnyObject.{AnyObject}
use Rattle.trdp_table.specs.Tables.{Keyed, SlotTable, TableState, opened_slot, slot_in}
use Rattle.trdp_table.specs.Tables.{all_objects, room_of, by_handle, by_key}
use Rattle.trdp_table.specs.Tables.{without_handle, without_objects, changed_at}
use Rattle.trdp_table.specs.TableLaws.{HandlesRise}
use Rattle.trdp_store.proofs.StoreLemmas.Slots.{KeysGive, handle_found}
use Rattle.trdp_store.proofs.StoreLemmas.Counts.{counted, counted-cons, counted-without, room-set}
use Rattle.trdp_store.proofs.SessionLemmas.Open.{AreListed}

-- the object of an index of a slot has the handle and the key
pub record IsAt (table : TableState) (s h key : ℕ) : Type 0 where
  pub keyed : Keyed
  pub found : by_handle h (slot_in s table).objects ≡ Some keyed
  pub key_is : key ≡ keyed.key

module _ (table : TableState) (s i key : ℕ) (gives : KeysGive table) (listed : AreListed table)
    (known : Some key ≡ option_map (λ keyed. keyed.key) (slice_get (slot_in s table).objects i))
  where
    record IsThere : Type 0 where
      keyed : Keyed
      at : slice_get (slot_in s table).objects i ≡ Some keyed
      key_is : key ≡ keyed.key

    there : IsThere
    there = either (slice_get (slot_in s table).objects i) refl
      where
        either : (o : Option Keyed) → slice_get (slot_in s table).objects i ≡ o → IsThere
        either None at = absurd (none-some key
            (sym (known ∙ ap (option_map (λ (keyed : Keyed). keyed.key)) at)))
        either (Some keyed) at = record {
          keyed = keyed;
          at = at;
          key_is = same_Some key keyed.key
              (known ∙ ap (option_map (λ (keyed : Keyed). keyed.key)) at);
        }

    by_its_key : by_key key (all_objects table) ≡ Some there.keyed
    by_its_key = ap (λ (k : ℕ). by_key k (all_objects table)) there.key_is
        ∙ gives s there.keyed.handle there.keyed (listed s i there.keyed there.at)

    -- it has an owner
    pub has_owner : is_some (by_key key (all_objects table)) ≡ true
    has_owner = ap is_some by_its_key

    -- the owner's handle is its own
    pub owned_at : (t h : ℕ)
        → by_handle h (slot_in t table).objects ≡ by_key key (all_objects table)
        → IsAt table s h key
    owned_at t h owner =
        let handle = handle_found h (slot_in t table).objects there.keyed (owner ∙ by_its_key) in
        record {
          keyed = there.keyed;
          found = ap (λ (n : ℕ). by_handle n (slot_in s table).objects) (sym handle)
              ∙ listed s i there.keyed there.at;
          key_is = there.key_is;
        }

    -- it is the object of the index that goes with that handle
    pub gone_at : (t h : ℕ)
        → by_handle h (slot_in t table).objects ≡ by_key key (all_objects table)
        → IfSome (slice_get (slot_in s table).objects i)
        (λ keyed. changed_at s (without_handle h) table
        ≡ changed_at s (without_handle keyed.handle) table)
    gone_at t h owner = either (slice_get (slot_in s table).objects i) refl
      where
        either : (o : Option Keyed) → slice_get (slot_in s table).objects i ≡ o
            → IfSome o (λ keyed. changed_at s (without_handle h) table
            ≡ changed_at s (without_handle keyed.handle) table)
        either None at = tt
        either (Some keyed) at =
            let same : there.keyed ≡ keyed = same_Some there.keyed keyed (sym there.at ∙ at) in
            let handle =
            handle_found h (slot_in t table).objects there.keyed (owner ∙ by_its_key) in
            ap (λ (n : ℕ). changed_at s (without_handle n) table)
            (sym handle ∙ ap (λ (k : Keyed). k.handle) same)

pub key_at : (table : TableState) (s h key : ℕ) → IsAt table s h key
    → option_map (λ keyed. keyed.key) (by_handle h (slot_in s table).objects) ≡ Some key
key_at table s h key is =
    ap (option_map (λ (keyed : Keyed). keyed.key)) is.found
    ∙ ap (λ (k : ℕ). let some : Option ℕ = Some k in some) (sym is.key_is)

counted_each : (es : List Keyed) → counted (λ (object : AnyObject). Some object) es ≡ length es
counted_each [] = refl
counted_each (e ∷ es) =
    omega (arith, counted-cons (λ (object : AnyObject). Some object) e es, counted_each es)

-- the slot has one object fewer
pub one_fewer : (table : TableState) (s h key : ℕ) → s < length table
    → HandlesRise (slot_in s table).objects → IsAt table s h key
    → length (slot_in s table).objects
    ≡ length (slot_in s (changed_at s (without_handle h) table)).objects + 1
one_fewer table s h key lt rising is =
    let es : List Keyed = (slot_in s table).objects in
    let left : List Keyed = filter (λ keyed. not (keyed.handle == h)) es in
    let then : slot_in s (changed_at s (without_handle h) table)
    ≡ without_handle h (slot_in s table) =
    get_or-set_same table s (without_handle h (slot_in s table)) (opened_slot []) lt in
    let count : length (slot_in s (changed_at s (without_handle h) table)).objects ≡ length left =
    ap (λ (x : SlotTable). length x.objects) then in
    let fewer =
    counted-without (λ (object : AnyObject). Some object) h es is.keyed rising is.found in
    omega (arith, fewer, counted_each es, counted_each left, count)

-- without all objects the table is what it is without one of them and then the others
pub emptied_after : (table : TableState) (s h : ℕ) → s < length table
    → changed_at s without_objects (changed_at s (without_handle h) table)
    ≡ changed_at s without_objects table
emptied_after table s h lt =
    let x : SlotTable = without_handle h (slot_in s table) in
    ap (λ (y : SlotTable). set (set table s x) s (without_objects y))
    (get_or-set_same table s x (opened_slot []) lt)
    ∙ set-set table s x (without_objects (slot_in s table))

-- Tables that are alike without the objects of a slot.
module _ (table before : TableState) (s : ℕ)
    (same : changed_at s without_objects table ≡ changed_at s without_objects before) where
  pub length_alike : length table ≡ length before
  length_alike =
      sym (length-set table s (without_objects (slot_in s table)))
      ∙ (ap length same ∙ length-set before s (without_objects (slot_in s before)))

  pub room_alike : s < length table → s < length before → room_of table ≡ room_of before
  room_alike lt lt_before =
      sym (room-set table s (without_objects (slot_in s table)) lt refl)
      ∙ (ap room_of same ∙ room-set before s (without_objects (slot_in s before)) lt_before refl)

-- what one of those that are left costs is paid
pub paid : (spent more spent_then left k all : ℕ) → 0 < left → spent + left * k ≤ all → more ≤ k
    → spent_then ≤ spent + more → spent_then + (left - 1) * k ≤ all
paid spent more spent_then zero k all some budget one sum = absurd (omega arith)
paid spent more spent_then (suc left) k all some budget one sum =
    let before : suc left - 1 ≡ left = omega arith in
    let parts : suc left * k ≡ k + left * k = omega arith in
    rw before (omega (arith, budget, one, sum, parts))
