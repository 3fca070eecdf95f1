-- The schedule stays that of the table, as an object is removed.
-- For `Store::remove`.
-- By: the order of its key goes, and no other object has that key.
use Rattle.std.proofs.Common.{◌≡◌, ◌≢◌, ℕ, zero, suc, ◌<◌, List, [], ◌∷◌, length}
use Rattle.std.proofs.Common.{set, Option, Some, None, refl, ◌∙◌, sym, ap, arith}
use Rattle.std.specs.Prelude.{option_map, slice_index, slice_index_or}
use Rattle.std.proofs.lemmas.List.{get_or-set_same, get_or-set_other, length-set}
use Rattle.std.proofs.lemmas.Option.{none-some}
use Rattle.trdp_table.specs.Tables.{Keyed, SlotTable, TableState, opened_slot, slot_in}
use Rattle.trdp_table.specs.Tables.{by_handle, without_handle as without_keyed, changed_at}
use Rattle.trdp_table.specs.TableLaws.{IsTable}
use Rattle.trdp_timers.specs.declared.order.Order.{Order}
use Rattle.trdp_store.specs.Timed.{ScheduleState, IsTimed, IsOwned, IsScheduled}
use Rattle.trdp_store.proofs.StoreLemmas.Slots.{KeysGive, handle_found}
use Rattle.trdp_store.proofs.StoreLemmas.Counts.{room-set}
use Rattle.trdp_store.proofs.StoreLemmas.Found.{at_each, found_without, none_without, are_alone}
use Rattle.trdp_store.proofs.StoreLemmas.OwnKeys.{own_keys, slots_apart}
use Rattle.trdp_store.proofs.OrderLemmas.Added.{at_key}

-- An object goes.

-- without the order of a key, where the argument is a key
abbrev pub without_order : List (Option Order) → Option ℕ → List (Option Order)
without_order orders None = orders
without_order orders (Some key) = set orders key None

-- the key of the object that a handle may have
abbrev pub key_found : Option Keyed → Option ℕ
key_found found = option_map (λ keyed. keyed.key) found

module _ (table : TableState) (schedule after : ScheduleState)
    (s h : ℕ) (is : IsScheduled table schedule)
    (sound : IsTable table) (gives : KeysGive table) (lt : s < length table) (orders : after.orders
    ≡ without_order schedule.orders (key_found (by_handle h (slot_in s table).objects)))
    (rows : after.rows ≡ schedule.rows) (bytes : after.bytes ≡ schedule.bytes) where
  abbrev pub table_left : TableState
  table_left = changed_at s (without_keyed h) table

  left_here : slot_in s table_left ≡ without_keyed h (slot_in s table)
  left_here = get_or-set_same table s (without_keyed h (slot_in s table)) (opened_slot []) lt

  left_elsewhere : (t : ℕ) → t ≢ s → slot_in t table_left ≡ slot_in t table
  left_elsewhere t apart =
      get_or-set_other table s t (without_keyed h (slot_in s table)) (opened_slot []) apart

  -- what is found now was found, and wasn't that object
  record WasThere (t g : ℕ) (keyed : Keyed) : Type 0 where
    found : by_handle g (slot_in t table).objects ≡ Some keyed
    other : (gone : Keyed) → by_handle h (slot_in s table).objects ≡ Some gone
        → keyed.key ≢ gone.key

  abbrev AllWereThere : ℕ → Type 0
  AllWereThere t = (g : ℕ) (keyed : Keyed)
      → by_handle g (slot_in t table_left).objects ≡ Some keyed → WasThere t g keyed

  -- of the same slot
  was_here : (g : ℕ) (keyed : Keyed)
      → by_handle g (slot_in s table_left).objects ≡ Some keyed → WasThere s g keyed
  was_here g keyed at =
      at_key {P = WasThere s g keyed} g h
      (λ same. absurd (none-some keyed (sym (none_without h (slot_in s table).objects) ∙ (ap
      (λ (n : ℕ). by_handle n (without_keyed h (slot_in s table)).objects) (sym same) ∙ now))))
      (λ apart.
      let found = sym (found_without h g (slot_in s table).objects apart) ∙ now in
      record {
        found = found;
        other = λ gone was same.
            let one = are_alone table s gives g h keyed gone found was same in
            apart (sym (handle_found g (slot_in s table).objects keyed found) ∙ (ap
            (λ (k : Keyed). k.handle) one ∙ handle_found h (slot_in s table).objects gone was));
      })
    where
      now : by_handle g (without_keyed h (slot_in s table)).objects ≡ Some keyed
      now = ap (λ (x : SlotTable). by_handle g x.objects) (sym left_here) ∙ at

  were_there : (t : ℕ) → AllWereThere t
  were_there =
      at_each AllWereThere s was_here
      (λ t apart g keyed at.
      let found =
      ap (λ (x : SlotTable). by_handle g x.objects) (sym (left_elsewhere t apart)) ∙ at in
      record {
        found = found;
        other =
            λ gone was. slots_apart t s g h keyed gone table (own_keys table sound) found was apart;
      })

  -- what becomes of a key's order: that of the removed object is removed
  left_order : (k : ℕ)
      → ((gone : Keyed) → by_handle h (slot_in s table).objects ≡ Some gone → k ≢ gone.key)
      → slice_index_or after.orders k None ≡ slice_index_or schedule.orders k None
  left_order k other =
      ap (λ (os : List (Option Order)). slice_index_or os k None) orders
      ∙ either (by_handle h (slot_in s table).objects) refl
    where
      either : (o : Option Keyed) → by_handle h (slot_in s table).objects ≡ o → slice_index_or
          (without_order schedule.orders (key_found (by_handle h (slot_in s table).objects))) k None
          ≡ slice_index_or schedule.orders k None
      either None at = rw at refl
      either (Some gone) at =
          rw at (get_or-set_other schedule.orders gone.key k None None (other gone at))

  left_timed : (t g : ℕ) (keyed : Keyed)
      → by_handle g (slot_in t table_left).objects ≡ Some keyed → IsTimed t after keyed
  left_timed t g keyed at =
      let was = were_there t g keyed at in
      let timed = is.timed t g keyed was.found in
      record {
        order = left_order keyed.key was.other ∙ timed.order;
        rows = ap (λ (ns : List ℕ). slice_index ns keyed.key) rows ∙ timed.rows;
        bytes = ap (λ (ns : List ℕ). slice_index ns keyed.key) bytes ∙ timed.bytes;
      }

  -- a key that still has an order isn't that of the removed object
  not_gone : (k : ℕ) (order : Order) → slice_index_or after.orders k None ≡ Some order
      → (gone : Keyed) → by_handle h (slot_in s table).objects ≡ Some gone → k ≢ gone.key
  not_gone k order at gone was same =
      let cleared : slice_index_or after.orders gone.key None ≡ None =
      ap (λ (os : List (Option Order)). slice_index_or os gone.key None)
      (orders ∙ ap (λ (o : Option Keyed). without_order schedule.orders (key_found o)) was)
      ∙ unset schedule.orders gone.key in
      none-some order
      (sym cleared ∙ (ap (λ (n : ℕ). slice_index_or after.orders n None) (sym same) ∙ at))
    where
      unset : (os : List (Option Order)) (n : ℕ) → slice_index_or (set os n None) n None ≡ None
      unset [] n = refl
      unset (o ∷ os) zero = refl
      unset (o ∷ os) (suc n) = unset os n

  -- the object of another handle or slot is still found
  stays_found : (t g : ℕ) (keyed : Keyed) → by_handle g (slot_in t table).objects ≡ Some keyed
      → ((gone : Keyed) → by_handle h (slot_in s table).objects ≡ Some gone → keyed.key ≢ gone.key)
      → by_handle g (slot_in t table_left).objects ≡ Some keyed
  stays_found t g keyed at other =
      at_key {P = by_handle g (slot_in t table_left).objects ≡ Some keyed} t s
      (λ same.
      let here = ap (λ (n : ℕ). by_handle g (slot_in n table).objects) (sym same) ∙ at in
      let apart : g ≢ h = λ is_h. other keyed
      (ap (λ (n : ℕ). by_handle n (slot_in s table).objects) (sym is_h) ∙ here) refl in
      ap (λ (n : ℕ). by_handle g (slot_in n table_left).objects) same
      ∙ (ap (λ (x : SlotTable). by_handle g x.objects) left_here
      ∙ (found_without h g (slot_in s table).objects apart ∙ here)))
      (λ apart. ap (λ (x : SlotTable). by_handle g x.objects) (left_elsewhere t apart) ∙ at)

  left_owned : (k : ℕ) (order : Order) → slice_index_or after.orders k None ≡ Some order
      → IsOwned table_left k order
  left_owned k order at =
      let other = not_gone k order at in
      let o = is.owned k order (sym (left_order k other) ∙ at) in
      record {
        keyed = o.keyed;
        found = stays_found order.slot order.handle
            o.keyed o.found (λ gone was same. other gone was (sym o.key_is ∙ same));
        key_is = o.key_is;
      }

  length_left : (found : Option ℕ)
      → length (without_order schedule.orders found) ≡ length schedule.orders
  length_left None = refl
  length_left (Some key) = length-set schedule.orders key None

  pub scheduled_without : IsScheduled table_left after
  scheduled_without =
      let room = room-set table s (without_keyed h (slot_in s table)) lt refl in
      record {
        timed = left_timed;
        owned = left_owned;
        room = omega (
          arith,
          room,
          is.room,
          ap length orders,
          length_left (key_found (by_handle h (slot_in s table).objects)),
        );
        rows_room = omega (arith, room, is.rows_room, ap length rows);
        bytes_room = omega (arith, room, is.bytes_room, ap length bytes);
      }
