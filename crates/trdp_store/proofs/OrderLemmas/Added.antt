-- The schedule stays that of the table, as objects are added.
-- For `Store::new` and `add`, and for `OrderLemmas.Removed` and `Changed`.
-- By: the order of one key is set, and every other key keeps its own.
use Rattle.std.proofs.Common.{◌≡◌, ◌≢◌, ℕ, zero, suc, ◌<◌, List, [], ◌∷◌, length, map, set, Option}
use Rattle.std.proofs.Common.{Some, None, Bool, true, false, refl, ◌∙◌, sym, ap, subst, arith}
use Rattle.std.specs.Prelude.{◌==◌, option_map, slice_index, slice_index_or}
use Rattle.std.proofs.lemmas.Bool.Decides.{nat_tests}
use Rattle.std.proofs.lemmas.List.{get_or-set_same, get_or-set_other, length-set, length-replicate}
use Rattle.std.proofs.lemmas.Option.{same_Some, none-some}
use Rattle.trdp_model.specs.declared.any_object.AnyObject.{AnyObject}
use Rattle.trdp_model.specs.Kinds.{kind_of}
use Rattle.trdp_model.specs.Objects.{due_of}
use Rattle.trdp_table.specs.Tables.{Keyed, SlotTable, TableState, opened_slot}
use Rattle.trdp_table.specs.Tables.{slot_in, all_objects, room_of, by_handle, by_key}
use Rattle.trdp_table.specs.Tables.{new_object, with_object, changed_at, Adds}
use Rattle.trdp_table.specs.TableLaws.{IsTable}
use Rattle.trdp_timers.specs.declared.order.Order.{Order}
use Rattle.trdp_outbox.specs.declared.room.Room.{Room}
use Rattle.trdp_outbox.specs.Rooms.{kind_room}
use Rattle.trdp_store.specs.Timed.{ScheduleState, empty_schedule, due_order}
use Rattle.trdp_store.specs.Timed.{IsTimed, IsOwned, IsScheduled}
use Rattle.trdp_store.proofs.StoreLemmas.Slots.{KeysGive}
use Rattle.trdp_store.proofs.StoreLemmas.Counts.{room-set}
use Rattle.trdp_store.proofs.StoreLemmas.Found.{at_each, found_last, found_before, found_added}
use Rattle.trdp_store.proofs.ComLemmas.Kept.{added_found}
use Rattle.trdp_store.proofs.OrderLemmas.Counts.{orders_of}

-- The other keys.

-- what another key has stays
pub record KeepsElse (schedule after : ScheduleState) (key : ℕ) : Type 0 where
  pub orders : (k : ℕ)
      → k ≢ key → slice_index_or after.orders k None ≡ slice_index_or schedule.orders k None
  pub rows : (k : ℕ) → k ≢ key → slice_index after.rows k ≡ slice_index schedule.rows k
  pub bytes : (k : ℕ) → k ≢ key → slice_index after.bytes k ≡ slice_index schedule.bytes k

-- the order of a key was set, and its room
pub record Admits (schedule after : ScheduleState) (key : ℕ) (order : Option Order) (room : Room)
    : Type 0 where
  pub orders : after.orders ≡ set schedule.orders key order
  pub rows : after.rows ≡ set schedule.rows key room.rows
  pub bytes : after.bytes ≡ set schedule.bytes key room.bytes

-- the order of a key was set
pub record Resets (schedule after : ScheduleState) (key : ℕ) (order : Option Order) : Type 0 where
  pub orders : after.orders ≡ set schedule.orders key order
  pub rows : after.rows ≡ schedule.rows
  pub bytes : after.bytes ≡ schedule.bytes

pub order_else : (orders after : List (Option Order)) (key : ℕ) (order : Option Order)
    → after ≡ set orders key order → (k : ℕ) → k ≢ key
    → slice_index_or after k None ≡ slice_index_or orders k None
order_else orders after key order is k apart =
    ap (λ (os : List (Option Order)). slice_index_or os k None) is
    ∙ get_or-set_other orders key k order None apart

size_else : (sizes after : List ℕ) (key size : ℕ)
    → after ≡ set sizes key size → (k : ℕ) → k ≢ key → slice_index after k ≡ slice_index sizes k
size_else sizes after key size is k apart =
    ap (λ (ns : List ℕ). slice_index ns k) is ∙ get_or-set_other sizes key k size 0 apart

admits_else : (schedule after : ScheduleState) (key : ℕ) (order : Option Order) (room : Room)
    → Admits schedule after key order room → KeepsElse schedule after key
admits_else schedule after key order room a = record {
  orders = order_else schedule.orders after.orders key order a.orders;
  rows = size_else schedule.rows after.rows key room.rows a.rows;
  bytes = size_else schedule.bytes after.bytes key room.bytes a.bytes;
}

pub resets_else : (schedule after : ScheduleState) (key : ℕ) (order : Option Order)
    → Resets schedule after key order → KeepsElse schedule after key
resets_else schedule after key order r = record {
  orders = order_else schedule.orders after.orders key order r.orders;
  rows = λ k apart. ap (λ (ns : List ℕ). slice_index ns k) r.rows;
  bytes = λ k apart. ap (λ (ns : List ℕ). slice_index ns k) r.bytes;
}

pub timed_else : (t key : ℕ) (schedule after : ScheduleState) (keyed : Keyed)
    → KeepsElse schedule after key → keyed.key ≢ key
    → IsTimed t schedule keyed → IsTimed t after keyed
timed_else t key schedule after keyed keeps apart is = record {
  order = keeps.orders keyed.key apart ∙ is.order;
  rows = keeps.rows keyed.key apart ∙ is.rows;
  bytes = keeps.bytes keyed.key apart ∙ is.bytes;
}

-- what an order says of its object
pub record IsOrderOf (s h : ℕ) (due : Option ℕ) (order : Order) : Type 0 where
  pub slot : order.slot ≡ s
  pub handle : order.handle ≡ h
  pub due_is : due ≡ Some order.due

pub is_order : (s h : ℕ) (due : Option ℕ) (order : Order)
    → due_order s h due ≡ Some order → IsOrderOf s h due order
is_order s h None order is = absurd (none-some order is)
is_order s h (Some d) order is =
    let own : Order = record { due = d; slot = s; handle = h } in
    let same : own ≡ order = same_Some own order is in
    record {
      slot = ap (λ (o : Order). o.slot) (sym same);
      handle = ap (λ (o : Order). o.handle) (sym same);
      due_is = ap (λ (o : Order). let due : Option ℕ = Some o.due in due) same;
    }

-- A key is that one, or another.
pub at_key : {P : Type 0} (k key : ℕ) → (k ≡ key → P) → (k ≢ key → P) → P
at_key {P} k key here other = either (k == key) refl
  where
    either : (b : Bool) → (k == key) ≡ b → P
    either true is =
        let same : k ≡ key = grind (arith, nat_tests) in
        here same
    either false is =
        let apart : k ≢ key = grind (arith, nat_tests) in
        other apart

-- A new table.

none_of-replicate : (n k : ℕ) → slice_index_or (empty_schedule n).orders k None ≡ None
none_of-replicate zero k = refl
none_of-replicate (suc n) zero = refl
none_of-replicate (suc n) (suc k) = none_of-replicate n k

pub scheduled_new : (quotas : List (List ℕ)) (room : ℕ) → room_of (map opened_slot quotas) ≡ room
    → IsScheduled (map opened_slot quotas) (empty_schedule room)
scheduled_new quotas room le =
    let none : Option Order = None in
    record {
      timed = λ s h keyed at. absurd
          (none-some keyed (sym (ap (λ (es : List Keyed). by_handle h es) (empty quotas s)) ∙ at));
      owned = λ key order at. absurd (none-some order (sym (none_of-replicate room key) ∙ at));
      room = omega (arith, le, length-replicate room none);
      rows_room = omega (arith, le, length-replicate {A = ℕ} room 0);
      bytes_room = omega (arith, le, length-replicate {A = ℕ} room 0);
    }
  where
    empty : (qs : List (List ℕ)) (s : ℕ) → (slot_in s (map opened_slot qs)).objects ≡ []
    empty [] s = refl
    empty (q ∷ qs) zero = refl
    empty (q ∷ qs) (suc s) = empty qs s

-- An object is added.

module _ (table : TableState) (schedule after : ScheduleState)
    (s key : ℕ) (object : AnyObject) (is : IsScheduled table schedule) (sound : IsTable table)
    (gives : KeysGive table) (lt : s < length table) (fresh : by_key key (all_objects table) ≡ None)
    (within : key < room_of table) (admits : Admits schedule after
    key (due_order s (slot_in s table).next (due_of object)) (kind_room (kind_of object))) where
  abbrev pub new : Keyed
  new = new_object (slot_in s table).next key object

  abbrev pub table_then : TableState
  table_then = changed_at s (with_object key object) table

  here : slot_in s table_then ≡ with_object key object (slot_in s table)
  here = get_or-set_same table s (with_object key object (slot_in s table)) (opened_slot []) lt

  elsewhere : (t : ℕ) → t ≢ s → slot_in t table_then ≡ slot_in t table
  elsewhere t apart =
      get_or-set_other table s t (with_object key object (slot_in s table)) (opened_slot []) apart

  keeps : KeepsElse schedule after key
  keeps = admits_else schedule after key (due_order s (slot_in s table).next (due_of object))
      (kind_room (kind_of object)) admits

  -- an object that was there has another key
  old_key : (t g : ℕ) (keyed : Keyed)
      → by_handle g (slot_in t table).objects ≡ Some keyed → keyed.key ≢ key
  old_key t g keyed at same =
      none-some keyed (sym fresh
      ∙ (ap (λ (k : ℕ). by_key k (all_objects table)) (sym same) ∙ gives t g keyed at))

  new_order : slice_index_or after.orders key None
      ≡ due_order s (slot_in s table).next (due_of object)
  new_order =
      ap (λ (os : List (Option Order)). slice_index_or os key None) admits.orders
      ∙ get_or-set_same schedule.orders key (due_order s (slot_in s table).next (due_of object))
      None (omega (arith, within, is.room))

  new_timed : IsTimed s after new
  new_timed = record {
    order = new_order;
    rows =
        ap (λ (ns : List ℕ). slice_index ns key) admits.rows
        ∙ get_or-set_same schedule.rows key (kind_room (kind_of object)).rows
        0 (omega (arith, within, is.rows_room));
    bytes =
        ap (λ (ns : List ℕ). slice_index ns key) admits.bytes
        ∙ get_or-set_same schedule.bytes key (kind_room (kind_of object)).bytes
        0 (omega (arith, within, is.bytes_room));
  }

  abbrev AllTimed : ℕ → Type 0
  AllTimed t =
      (g : ℕ) (keyed : Keyed) → by_handle g (slot_in t table_then).objects ≡ Some keyed
      → IsTimed t after keyed

  all_timed : (t : ℕ) → AllTimed t
  all_timed =
      at_each AllTimed s
      (λ g keyed at.
      found_added {P = IsTimed s after keyed} g (slot_in s table).objects
      new keyed (ap (λ (x : SlotTable). by_handle g x.objects) (sym here) ∙ at)
      (λ old. timed_else s key schedule after
      keyed keeps (old_key s g keyed old) (is.timed s g keyed old))
      (λ same. subst (IsTimed s after) same new_timed))
      (λ t apart g keyed at.
      let old = ap (λ (x : SlotTable). by_handle g x.objects) (sym (elsewhere t apart)) ∙ at in
      timed_else t key schedule after keyed keeps (old_key t g keyed old) (is.timed t g keyed old))

  -- what was found is still found
  abbrev AllFoundYet : ℕ → Type 0
  AllFoundYet t =
      (g : ℕ) (keyed : Keyed) → by_handle g (slot_in t table).objects ≡ Some keyed
      → by_handle g (slot_in t table_then).objects ≡ Some keyed

  found_yet : (t : ℕ) → AllFoundYet t
  found_yet =
      at_each AllFoundYet s
      (λ g keyed at. ap (λ (x : SlotTable). by_handle g x.objects) here
      ∙ found_before g (slot_in s table).objects new keyed at)
      (λ t apart g keyed at. ap (λ (x : SlotTable). by_handle g x.objects) (elsewhere t apart) ∙ at)

  new_owned : (order : Order) → slice_index_or after.orders key None ≡ Some order
      → IsOwned table_then key order
  new_owned order at =
      let of = is_order s (slot_in s table).next (due_of object) order (sym new_order ∙ at) in
      record {
        keyed = new;
        found =
            ap (λ (t : ℕ). by_handle order.handle (slot_in t table_then).objects) of.slot
            ∙ (ap (λ (h : ℕ). by_handle h (slot_in s table_then).objects) of.handle
            ∙ (ap (λ (x : SlotTable). by_handle (slot_in s table).next x.objects) here
            ∙ found_last (slot_in s table).next
            (slot_in s table).objects new (sound.slots s).below refl));
        key_is = refl;
      }

  old_owned : (k : ℕ) (order : Order) → k ≢ key
      → slice_index_or after.orders k None ≡ Some order → IsOwned table_then k order
  old_owned k order apart at =
      let o = is.owned k order (sym (keeps.orders k apart) ∙ at) in
      record {
        keyed = o.keyed;
        found = found_yet order.slot order.handle o.keyed o.found;
        key_is = o.key_is;
      }

  pub scheduled_with : IsScheduled table_then after
  scheduled_with =
      let room = room-set table s (with_object key object (slot_in s table)) lt refl in
      record {
        timed = all_timed;
        owned = λ k order at.
            at_key {P = IsOwned table_then k order} k key
            (λ same. subst (λ (n : ℕ). IsOwned table_then n order) (sym same) (new_owned order
            (ap (λ (n : ℕ). slice_index_or after.orders n None) (sym same) ∙ at)))
            (λ apart. old_owned k order apart at);
        room = omega (
          arith,
          room,
          is.room,
          ap length admits.orders,
          length-set schedule.orders key (due_order s (slot_in s table).next (due_of object)),
        );
        rows_room = omega (
          arith,
          room,
          is.rows_room,
          ap length admits.rows,
          length-set schedule.rows key (kind_room (kind_of object)).rows,
        );
        bytes_room = omega (
          arith,
          room,
          is.bytes_room,
          ap length admits.bytes,
          length-set schedule.bytes key (kind_room (kind_of object)).bytes,
        );
      }

-- As the store's calls say it.

-- the key that was found by the new handle is the new object's
added_key : (table table_then : TableState) (s handle key : ℕ) (object : AnyObject)
    → IsTable table → s < length table → (a : Adds s object table table_then)
    → handle ≡ (slot_in s table).next
    → Some key ≡ option_map (λ keyed. keyed.key) (by_handle handle (slot_in s table_then).objects)
    → key ≡ a.key
added_key table table_then s handle key object sound lt a at found =
    let there = added_found table table_then s object sound lt a in
    let found_next = rw at at found in
    same_Some key a.key (found_next ∙ ap (option_map (λ (k : Keyed). k.key)) there)

-- that key had no order
pub added_unset : (table table_then : TableState)
    (schedule : ScheduleState) (s handle key : ℕ) (object : AnyObject)
    → IsScheduled table schedule → IsTable table → KeysGive table
    → s < length table → Adds s object table table_then → handle ≡ (slot_in s table).next
    → Some key ≡ option_map (λ keyed. keyed.key) (by_handle handle (slot_in s table_then).objects)
    → slice_index_or schedule.orders key None ≡ None
added_unset table table_then schedule s handle key object is sound gives lt a at found =
    let key_is = added_key table table_then s handle key object sound lt a at found in
    orders_of table schedule is gives key
    (ap (λ (k : ℕ). by_key k (all_objects table)) key_is ∙ a.fresh)

-- an object that was added is in the schedule
pub added_scheduled : (table table_then : TableState)
    (schedule after : ScheduleState) (s handle key : ℕ) (object : AnyObject)
    → IsScheduled table schedule → IsTable table → KeysGive table
    → s < length table → Adds s object table table_then → handle ≡ (slot_in s table).next
    → Some key ≡ option_map (λ keyed. keyed.key) (by_handle handle (slot_in s table_then).objects)
    → key < room_of table
    → Admits schedule after key (due_order s handle (due_of object)) (kind_room (kind_of object))
    → IsScheduled table_then after
added_scheduled table table_then schedule after
    s handle key object is sound gives lt a at found within admits =
    let key_is = added_key table table_then s handle key object sound lt a at found in
    let P : TableState → Type 0 = λ t. IsScheduled t after in
    let fresh : by_key key (all_objects table) ≡ None =
    ap (λ (k : ℕ). by_key k (all_objects table)) key_is ∙ a.fresh in
    let sets : Admits schedule after key (due_order s (slot_in s table).next (due_of object))
    (kind_room (kind_of object)) =
    subst (λ (n : ℕ). Admits schedule after key
    (due_order s n (due_of object)) (kind_room (kind_of object))) at admits in
    subst P (ap (λ (k : ℕ). changed_at s (with_object k object) table) key_is ∙ sym a.table)
    (scheduled_with table schedule after s key object is sound gives lt fresh within sets)

-- its key is one of the table's
pub added_within : (table table_then : TableState) (s handle key : ℕ) (object : AnyObject)
    → IsTable table_then → KeysGive table_then → s < length table → Adds s object table table_then
    → Some key ≡ option_map (λ keyed. keyed.key) (by_handle handle (slot_in s table_then).objects)
    → key < room_of table
added_within table table_after s handle key object sound gives lt a found =
    either (by_handle handle (slot_in s table_after).objects) refl found
  where
    room : room_of table_after ≡ room_of table
    room = ap room_of a.table
        ∙ room-set table s (with_object a.key object (slot_in s table)) lt refl

    either : (o : Option Keyed) → by_handle handle (slot_in s table_after).objects ≡ o
        → Some key ≡ option_map (λ keyed. keyed.key) o → key < room_of table
    either None at of = absurd (none-some key (sym of))
    either (Some keyed) at of =
        let key_is : key ≡ keyed.key = same_Some key keyed.key of in
        let within : keyed.key < room_of table_after =
        sound.below keyed.key (rw (gives s handle keyed at) refl) in
        omega (arith, key_is, within, room)
