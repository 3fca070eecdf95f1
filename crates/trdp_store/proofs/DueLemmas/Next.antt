-- The first order of all that are due is that of an object that comes next in its slot.
-- For `Schedule::first_due` and `Store::next_due`.
-- By: an order is its object's moment, slot and handle, so that it is first where the object is.
use Rattle.std.proofs.Common.{◌≡◌, ◌≢◌, ℕ, suc, ◌<◌, ◌≤◌, List, [], ◌∷◌, map, filter, Option}
use Rattle.std.proofs.Common.{Some, None, true, false, refl, ◌∙◌, sym, ap, subst, arith}
use Rattle.std.specs.Prelude.{◌==◌, ◌&&◌, ◌||◌, nat_lt, slice_get}
use Rattle.std.specs.Prelude.{slice_index_or, option_map}
use Rattle.std.proofs.lemmas.Bool.{false≢true}
use Rattle.std.proofs.lemmas.Bool.Decides.{nat_tests}
use Rattle.trdp_pd.specs.Due.{has_come_by}
use Rattle.trdp_model.specs.Objects.{due_of}
use Rattle.trdp_table.specs.Tables.{Keyed, TableState, slot_in, by_handle}
use Rattle.trdp_table.specs.TableLaws.{IsTable}
use Rattle.trdp_timers.specs.declared.order.Order.{Order}
use Rattle.trdp_timers.specs.Orders.{is_sooner, is_due_by as is_order_due}
use Rattle.trdp_timers.specs.Contents.{IsFirst}
use Rattle.trdp_store.specs.TableSlots.{entry_of_keyed}
use Rattle.trdp_store.specs.Acting.{slot_at}
use Rattle.trdp_model.specs.Moments.{is_due, fires_before}
use Rattle.trdp_store.specs.Firing.{ComesNext, FiresNext}
use Rattle.trdp_store.specs.Timed.{ScheduleState, due_order, IsScheduled, IsNoneDue, IsFirstDue}
use Rattle.trdp_store.proofs.StoreLemmas.Slots.{handle_found, entry_found, rising}
use Rattle.trdp_store.proofs.DueLemmas.First.{AllCome, fires_first, comes_next}
use Rattle.trdp_store.proofs.StoreLemmas.Keys.{KeysTell}
use Rattle.trdp_store.proofs.StoreLemmas.OwnKeys.{slot_filled}
use Rattle.trdp_store.proofs.OrderLemmas.Added.{is_order}
use Rattle.trdp_store.proofs.DueLemmas.Room.{due_as}

-- where the first order isn't due none is
pub none_due_after : (t key : ℕ) (orders : List (Option Order)) (order : Order)
    → IsFirst orders key order → t < order.due → IsNoneDue t orders
none_due_after t key orders order first late k = either (slice_index_or orders k None) refl
  where
    later_yet : (other : Order) → is_sooner other order ≡ false
        → is_order_due t (Some other) ≡ false
    later_yet other not_sooner = grind (arith, nat_tests)

    either : (o : Option Order) → slice_index_or orders k None ≡ o
        → is_order_due t (slice_index_or orders k None) ≡ false
    either None at = ap (is_order_due t) at
    either (Some other) at = ap (is_order_due t) at ∙ later_yet other (first.first k other at)

-- each of these is found by its handle in slot s
abbrev AllListed : TableState → ℕ → List Keyed → Type 0
AllListed table s [] = Unit {0}
AllListed table s (e ∷ es) =
    (by_handle e.handle (slot_in s table).objects ≡ Some e) × AllListed table s es

all_listed : (table : TableState) (s : ℕ) (es : List Keyed) → ((i : ℕ) (e : Keyed) → slice_get es i
    ≡ Some e → by_handle e.handle (slot_in s table).objects ≡ Some e) → AllListed table s es
all_listed table s [] listed = tt
all_listed table s (e ∷ es) listed =
    (listed 0 e refl, all_listed table s es (λ i x at. listed (suc i) x at))

-- one that isn't sooner, and has another handle in the slot, comes later
later : (due d slot h g : ℕ) → is_sooner (record { due = d; slot = slot; handle = g })
    (record { due = due; slot = slot; handle = h }) ≡ false
    → g ≢ h → (nat_lt due d || (due == d && nat_lt h g)) ≡ true
later due d slot h g not_sooner apart = grind (arith, nat_tests)

due_true : (t d : ℕ) → d ≤ t → has_come_by t (Some d) ≡ true
due_true t d le = grind (arith, nat_tests)

module _ (table : TableState) (schedule : ScheduleState) (t : ℕ) (is : IsScheduled table schedule)
    (sound : IsTable table) (tell : KeysTell table) where
  listed : (s : ℕ) → AllListed table s (slot_in s table).objects
  listed s = all_listed table s (slot_in s table).objects (λ i e at. tell.listed s i e at)

  none_of : (s : ℕ) (es : List Keyed) → IsNoneDue t schedule.orders
      → AllListed table s es → filter (is_due t) (map entry_of_keyed es) ≡ []
  none_of s [] none all = refl
  none_of s (e ∷ es) none all =
      let not : has_come_by t (due_of e.object) ≡ false =
      sym (ap (is_order_due t) (is.timed s e.handle e all.0).order
      ∙ due_as t s e.handle (due_of e.object)) ∙ none e.key in
      rw not (none_of s es none all.1)

  module _ (key : ℕ) (order : Order) (first : IsFirstDue t schedule.orders key order) where
    abbrev owner : Keyed
    owner = (is.owned key order first.first.its_order).keyed

    found : by_handle order.handle (slot_in order.slot table).objects ≡ Some owner
    found = (is.owned key order first.first.its_order).found

    under : owner.handle ≡ order.handle
    under = handle_found order.handle (slot_in order.slot table).objects owner found

    due_at : due_of owner.object ≡ Some order.due
    due_at =
        (is_order order.slot owner.handle (due_of owner.object) order
        (sym (is.timed order.slot order.handle owner found).order
        ∙ (ap (λ (k : ℕ). slice_index_or schedule.orders k None)
        (is.owned key order first.first.its_order).key_is
        ∙ first.first.its_order))).due_is

    comes : (x : Keyed) → by_handle x.handle (slot_in order.slot table).objects ≡ Some x
        → has_come_by t (due_of x.object) ≡ true
        → x.handle ≢ owner.handle → fires_before (entry_of_keyed owner) (entry_of_keyed x) ≡ true
    comes x at due apart = either (due_of x.object) refl due
      where
        either : (o : Option ℕ) → due_of x.object ≡ o
            → has_come_by t o ≡ true → fires_before (entry_of_keyed owner) (entry_of_keyed x) ≡ true
        either None of due = absurd (false≢true due)
        either (Some d) of due =
            let its : Order = record { due = d; slot = order.slot; handle = x.handle } in
            let set : slice_index_or schedule.orders x.key None ≡ Some its =
            (is.timed order.slot x.handle x at).order ∙ ap (due_order order.slot x.handle) of in
            let not_sooner = first.first.first x.key its set in
            let differ : x.handle ≢ order.handle = λ same. apart (same ∙ sym under) in
            rw (due_at, of, under)
            (later order.due d order.slot order.handle x.handle not_sooner differ)

    all_come : (es : List Keyed) → AllListed table order.slot es
        → AllCome t (entry_of_keyed owner) (map entry_of_keyed es)
    all_come [] all = tt
    all_come (e ∷ es) all = (comes e all.0, all_come es all.1)

    next_of : FiresNext t (slot_at order.slot table).objects order.handle
    next_of =
        let there = entry_found owner.handle (slot_in order.slot table).objects
        ∙ ap (option_map entry_of_keyed)
        (ap (λ (n : ℕ). by_handle n (slot_in order.slot table).objects) under ∙ found) in
        let due = ap (has_come_by t) due_at ∙ due_true t order.due first.due in
        let f = fires_first t (entry_of_keyed owner)
        (slot_at order.slot table).objects (rising table order.slot sound)
        (all_come (slot_in order.slot table).objects (listed order.slot)) there due in
        subst (FiresNext t (slot_at order.slot table).objects)
        under (comes_next t (slot_at order.slot table).objects (entry_of_keyed owner) f)

  pub none_comes : IsNoneDue t schedule.orders → ComesNext t table None
  none_comes none = λ s. none_of s (slot_in s table).objects none (listed s)

  pub first_comes : (key : ℕ) (order : Order) (known : Option ℕ)
      → IsFirstDue t schedule.orders key order
      → ComesNext t table (Some (record { slot = order.slot; handle = order.handle; key = known }))
  first_comes key order known first = (
    slot_filled order.slot
        order.handle table (owner key order first) (found key order first),
    next_of key order first,
  )

  pub first_key : (key : ℕ) (order : Order) → IsFirstDue t schedule.orders key order
      → Some key ≡ option_map (λ keyed. keyed.key)
      (by_handle order.handle (slot_in order.slot table).objects)
  first_key key order first =
      rw (found key order first)
      (ap (λ (k : ℕ). let some : Option ℕ = Some k in some)
      (sym (is.owned key order first.first.its_order).key_is))
