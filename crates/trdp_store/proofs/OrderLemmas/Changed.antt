-- The schedule stays that of the table, as an object is exchanged for another one.
-- For `Store::act`.
-- By: the order of its key is set again, and no other object has that key.
use Rattle.std.proofs.Common.{◌≡◌, ◌≢◌, ℕ, ◌<◌, List, [], length, Option, Some, None}
use Rattle.std.proofs.Common.{Bool, true, false, refl, ◌∙◌, sym, ap, subst, arith, ◌∷◌}
use Rattle.std.specs.Prelude.{◌==◌, option_map, slice_index, slice_index_or}
use Rattle.std.proofs.lemmas.Bool.Decides.{nat_tests}
use Rattle.std.proofs.lemmas.List.{get_or-set_same, get_or-set_other, length-set}
use Rattle.std.proofs.lemmas.List.Sums.{sum_by-cons}
use Rattle.std.proofs.lemmas.Option.{same_Some, none-some}
use Rattle.trdp_model.specs.declared.any_object.AnyObject.{AnyObject}
use Rattle.trdp_model.specs.Kinds.{kind_of}
use Rattle.trdp_model.specs.Objects.{due_of}
use Rattle.trdp_table.specs.Tables.{Keyed, SlotTable, TableState, opened_slot, slot_in}
use Rattle.trdp_table.specs.Tables.{all_quotas, room_of, by_handle, with_other_by_key}
use Rattle.trdp_table.specs.Tables.{changed_at, exchanged, other_by_handle, with_other_by_handle}
use Rattle.trdp_table.specs.TableLaws.{IsTable}
use Rattle.trdp_timers.specs.declared.order.Order.{Order}
use Rattle.trdp_outbox.specs.Rooms.{kind_room}
use Rattle.trdp_store.specs.Timed.{ScheduleState, due_order, IsTimed, IsOwned, IsScheduled}
use Rattle.trdp_store.proofs.StoreLemmas.Slots.{KeysGive, handle_found, ExchangesAlone, IsReached}
use Rattle.trdp_store.proofs.StoreLemmas.Counts.{room-set}
use Rattle.trdp_store.proofs.StoreLemmas.Found.{at_each, found_other, are_alone}
use Rattle.trdp_store.proofs.StoreLemmas.OwnKeys.{own_keys, slots_apart}
use Rattle.trdp_store.proofs.OrderLemmas.Added.{KeepsElse, Resets, resets_else, timed_else}
use Rattle.trdp_store.proofs.OrderLemmas.Added.{is_order, at_key}

-- An object becomes another one.

key_of-other : (h : ℕ) (w : AnyObject) (keyed : Keyed) → (other_by_handle h w keyed).key ≡ keyed.key
key_of-other h w keyed = either (keyed.handle == h) refl
  where
    either : (b : Bool) → (keyed.handle == h) ≡ b → (other_by_handle h w keyed).key ≡ keyed.key
    either true is = rw is refl
    either false is = rw is refl

-- that of the handle
other_own : (h : ℕ) (w : AnyObject) (keyed : Keyed)
    → keyed.handle ≡ h → other_by_handle h w keyed ≡ record keyed { object = w }
other_own h w keyed own =
    let is : (keyed.handle == h) ≡ true = grind (arith, nat_tests) in
    rw is refl

other_else : (h : ℕ) (w : AnyObject) (keyed : Keyed)
    → keyed.handle ≢ h → other_by_handle h w keyed ≡ keyed
other_else h w keyed apart =
    let is : (keyed.handle == h) ≡ false = grind (arith, nat_tests) in
    rw is refl

module _ (table : TableState) (schedule after : ScheduleState)
    (s h : ℕ) (was : Keyed) (w : AnyObject) (is : IsScheduled table schedule)
    (sound : IsTable table) (gives : KeysGive table)
    (lt : s < length table) (found : by_handle h (slot_in s table).objects ≡ Some was)
    (kind : kind_of w ≡ kind_of was.object)
    (resets : Resets schedule after was.key (due_order s h (due_of w))) where
  abbrev pub table_new : TableState
  table_new = changed_at s (with_other_by_handle h w) table

  new_here : slot_in s table_new ≡ with_other_by_handle h w (slot_in s table)
  new_here =
      get_or-set_same table s (with_other_by_handle h w (slot_in s table)) (opened_slot []) lt

  new_elsewhere : (t : ℕ) → t ≢ s → slot_in t table_new ≡ slot_in t table
  new_elsewhere t apart =
      get_or-set_other table s t (with_other_by_handle h w (slot_in s table)) (opened_slot []) apart

  keeps_others : KeepsElse schedule after was.key
  keeps_others = resets_else schedule after was.key (due_order s h (due_of w)) resets

  under : was.handle ≡ h
  under = handle_found h (slot_in s table).objects was found

  below : was.key < room_of table
  below = sound.below was.key (rw (gives s h was found) refl)

  order_set : slice_index_or after.orders was.key None ≡ due_order s h (due_of w)
  order_set =
      ap (λ (os : List (Option Order)). slice_index_or os was.key None) resets.orders
      ∙ get_or-set_same schedule.orders was.key
      (due_order s h (due_of w)) None (omega (arith, below, is.room))

  other_timed : IsTimed s after (record was { object = w })
  other_timed =
      let timed = is.timed s h was found in
      record {
        order = order_set ∙ ap (λ (n : ℕ). due_order s n (due_of w)) (sym under);
        rows =
            ap (λ (ns : List ℕ). slice_index ns was.key) resets.rows
            ∙ (timed.rows ∙ ap (λ (k : _). (kind_room k).rows) (sym kind));
        bytes =
            ap (λ (ns : List ℕ). slice_index ns was.key) resets.bytes
            ∙ (timed.bytes ∙ ap (λ (k : _). (kind_room k).bytes) (sym kind));
      }

  -- an object of the slot that was found
  here_timed : (g : ℕ) (old : Keyed) → by_handle g (slot_in s table).objects ≡ Some old
      → IsTimed s after (other_by_handle h w old)
  here_timed g old at =
      at_key {P = IsTimed s after (other_by_handle h w old)} g h
      (λ same.
      let one : old ≡ was = same_Some old was
      (sym at ∙ (ap (λ (n : ℕ). by_handle n (slot_in s table).objects) same ∙ found)) in
      subst (λ (k : Keyed). IsTimed s after (other_by_handle h w k)) (sym one)
      (subst (IsTimed s after) (sym (other_own h w was under)) other_timed))
      (λ apart.
      let handle = handle_found g (slot_in s table).objects old at in
      let differ : old.key ≢ was.key =
      λ same. apart (sym handle ∙ (ap (λ (k : Keyed). k.handle)
      (are_alone table s gives g h old was at found same) ∙ under)) in
      subst (IsTimed s after) (sym (other_else h w old (λ same. apart (sym handle ∙ same))))
      (timed_else s was.key schedule after old keeps_others differ (is.timed s g old at)))

  abbrev AllNewTimed : ℕ → Type 0
  AllNewTimed t = (g : ℕ) (keyed : Keyed)
      → by_handle g (slot_in t table_new).objects ≡ Some keyed → IsTimed t after keyed

  -- of the slot that changed
  changed_timed : (g : ℕ) (keyed : Keyed)
      → by_handle g (slot_in s table_new).objects ≡ Some keyed → IsTimed s after keyed
  changed_timed g keyed at = either (by_handle g (slot_in s table).objects) refl
    where
      now : option_map (other_by_handle h w) (by_handle g (slot_in s table).objects) ≡ Some keyed
      now =
          sym (found_other h g w (slot_in s table).objects)
          ∙ (ap (λ (x : SlotTable). by_handle g x.objects) (sym new_here) ∙ at)

      either : (o : Option Keyed) → by_handle g (slot_in s table).objects ≡ o
          → IsTimed s after keyed
      either None old =
          absurd (none-some keyed (sym (ap (option_map (other_by_handle h w)) old) ∙ now))
      either (Some e) old =
          let same : other_by_handle h w e ≡ keyed = same_Some (other_by_handle h w e)
          keyed (sym (ap (option_map (other_by_handle h w)) old) ∙ now) in
          subst (IsTimed s after) same (here_timed g e old)

  new_all_timed : (t : ℕ) → AllNewTimed t
  new_all_timed =
      at_each AllNewTimed s changed_timed
      (λ t apart g keyed at.
      let old = ap (λ (x : SlotTable). by_handle g x.objects) (sym (new_elsewhere t apart)) ∙ at in
      timed_else t was.key schedule after keyed keeps_others (slots_apart t
      s g h keyed was table (own_keys table sound) old found apart) (is.timed t g keyed old))

  -- the object that has the key of one that was found
  record StandsAs (t g : ℕ) (keyed : Keyed) : Type 0 where
    now : Keyed
    at : by_handle g (slot_in t table_new).objects ≡ Some now
    key_is : now.key ≡ keyed.key

  stands : (t g : ℕ) (keyed : Keyed)
      → by_handle g (slot_in t table).objects ≡ Some keyed → StandsAs t g keyed
  stands t g keyed at =
      at_key {P = StandsAs t g keyed} t s
      (λ same.
      let here = ap (λ (n : ℕ). by_handle g (slot_in n table).objects) (sym same) ∙ at in
      record {
        now = other_by_handle h w keyed;
        at =
            ap (λ (n : ℕ). by_handle g (slot_in n table_new).objects) same
            ∙ (ap (λ (x : SlotTable). by_handle g x.objects) new_here
            ∙ (found_other h g w (slot_in s table).objects
            ∙ ap (option_map (other_by_handle h w)) here));
        key_is = key_of-other h w keyed;
      })
      (λ apart. record {
        now = keyed;
        at = ap (λ (x : SlotTable). by_handle g x.objects) (new_elsewhere t apart) ∙ at;
        key_is = refl;
      })

  -- that of the key whose order was set
  set_owned : (order : Order) → slice_index_or after.orders was.key None ≡ Some order
      → IsOwned table_new was.key order
  set_owned order at =
      let of = is_order s h (due_of w) order (sym order_set ∙ at) in
      let one = stands s h was found in
      record {
        keyed = one.now;
        found =
            ap (λ (t : ℕ). by_handle order.handle (slot_in t table_new).objects) of.slot
            ∙ (ap (λ (n : ℕ). by_handle n (slot_in s table_new).objects) of.handle ∙ one.at);
        key_is = one.key_is;
      }

  else_owned : (k : ℕ) (order : Order) → k ≢ was.key
      → slice_index_or after.orders k None ≡ Some order → IsOwned table_new k order
  else_owned k order apart at =
      let o = is.owned k order (sym (keeps_others.orders k apart) ∙ at) in
      let one = stands order.slot order.handle o.keyed o.found in
      record { keyed = one.now; found = one.at; key_is = one.key_is ∙ o.key_is }

  pub scheduled_exchanged : IsScheduled table_new after
  scheduled_exchanged =
      let room = room-set table s (with_other_by_handle h w (slot_in s table)) lt refl in
      record {
        timed = new_all_timed;
        owned = λ k order at.
            at_key {P = IsOwned table_new k order} k was.key
            (λ same. subst (λ (n : ℕ). IsOwned table_new n order) (sym same) (set_owned order
            (ap (λ (n : ℕ). slice_index_or after.orders n None) (sym same) ∙ at)))
            (λ apart. else_owned k order apart at);
        room = omega (
          arith,
          room,
          is.room,
          ap length resets.orders,
          length-set schedule.orders was.key (due_order s h (due_of w)),
        );
        rows_room = omega (arith, room, is.rows_room, ap length resets.rows);
        bytes_room = omega (arith, room, is.bytes_room, ap length resets.bytes);
      }

-- the room stays
pub room_exchanged : (key : ℕ) (table : TableState) (w : AnyObject)
    → room_of (exchanged key table w) ≡ room_of table
room_exchanged key [] w = refl
room_exchanged key (x ∷ xs) w =
    omega (
      arith,
      room_exchanged key xs w,
      sum_by-cons (λ (slot : SlotTable). all_quotas slot.quotas) (with_other_by_key key w x)
          (exchanged key xs w),
      sum_by-cons (λ (slot : SlotTable). all_quotas slot.quotas) x xs,
    )

-- the key of an object that was reached is one of the table's
pub reached_within : (table : TableState) (s h key : ℕ) (object : AnyObject)
    → IsTable table → KeysGive table → IsReached table s h key object → key < room_of table
reached_within table s h key object sound gives r =
    let within : r.keyed.key < room_of table =
    sound.below r.keyed.key (rw (gives s h r.keyed r.found) refl) in
    omega (arith, r.key_is, within)

-- an object that was reached by its handle becomes another one of its kind, and is due after
pub scheduled_reached : (table : TableState) (schedule after : ScheduleState) (s h key : ℕ)
    (object object_then : AnyObject) → IsScheduled table schedule → IsTable table → KeysGive table
    → s < length table → ExchangesAlone table → IsReached table s h key object → kind_of object_then
    ≡ kind_of object → Resets schedule after key (due_order s h (due_of object_then))
    → IsScheduled (exchanged key table object_then) after
scheduled_reached table schedule after s h key
    object object_then is sound gives lt exchanges r kind resets =
    let is_then : exchanged key table object_then
    ≡ changed_at s (with_other_by_handle h object_then) table =
    ap (λ (k : ℕ). exchanged k table object_then) r.key_is
    ∙ exchanges s h r.keyed object_then r.found in
    let P : TableState → Type 0 = λ t. IsScheduled t after in
    subst P (sym is_then)
    (scheduled_exchanged table schedule after
    s h r.keyed object_then is sound gives lt r.found (kind ∙ ap kind_of r.object_is)
    (subst (λ (k : ℕ). Resets schedule after k (due_order s h (due_of object_then)))
    r.key_is resets))

-- where it is then
pub reached_then : (table : TableState) (s h key : ℕ) (object object_then : AnyObject)
    → s < length table → ExchangesAlone table → (r : IsReached table s h key object)
    → by_handle h (slot_in s (exchanged key table object_then)).objects
    ≡ Some (record r.keyed { object = object_then })
reached_then table s h key object object_then lt exchanges r =
    let own = other_own h object_then r.keyed
    (handle_found h (slot_in s table).objects r.keyed r.found) in
    ap (λ (t : TableState). by_handle h (slot_in s t).objects) (ap (λ (k : ℕ).
    exchanged k table object_then) r.key_is ∙ exchanges s h r.keyed object_then r.found)
    ∙ (ap (λ (x : SlotTable). by_handle h x.objects) (get_or-set_same table
    s (with_other_by_handle h object_then (slot_in s table)) (opened_slot []) lt)
    ∙ (found_other h h object_then (slot_in s table).objects
    ∙ (ap (option_map (other_by_handle h object_then)) r.found
    ∙ ap (λ (k : Keyed). let some : Option Keyed = Some k in some) own)))

-- its order
pub reached_order :
    (table : TableState) (schedule : ScheduleState) (s h key : ℕ) (object : AnyObject)
    → IsScheduled table schedule → IsReached table s h key object
    → slice_index_or schedule.orders key None ≡ due_order s h (due_of object)
reached_order table schedule s h key object is r =
    ap (λ (k : ℕ). slice_index_or schedule.orders k None) r.key_is
    ∙ ((is.timed s h r.keyed r.found).order
    ∙ (ap (λ (n : ℕ). due_order s n (due_of r.keyed.object))
    (handle_found h (slot_in s table).objects r.keyed r.found)
    ∙ ap (λ (o : AnyObject). due_order s h (due_of o)) (sym r.object_is)))
