-- How many orders a schedule has: no more than there are objects.
-- For `Store::add`, `act` and `remove`, whose costs depend on it, and for `OrderLemmas.Added`.
-- By: each order is that of an object's key, and no two objects have one key.
use Rattle.std.proofs.Common.{◌≡◌, ◌≢◌, ℕ, zero, suc, ◌+◌, ◌*◌, ◌^◌, ◌<◌, ◌≤◌, List, []}
use Rattle.std.proofs.Common.{◌∷◌, length, set, Option, Some, None, Bool, true, false}
use Rattle.std.proofs.Common.{is_some, cond, count_by, refl, ◌∙◌, sym, ap, arith}
use Rattle.std.specs.Prelude.{◌==◌, slice_index_or}
use Rattle.std.proofs.lemmas.Bool.Decides.{nat_tests}
use Rattle.std.proofs.lemmas.List.{get_or-set_other}
use Rattle.std.proofs.lemmas.List.Sums.{sum_by-cons}
use Rattle.std.proofs.lemmas.Option.{none-some}
use Rattle.trdp_model.specs.declared.any_object.AnyObject.{AnyObject}
use Rattle.trdp_table.specs.Tables.{Keyed, TableState, all_objects, room_of, by_key}
use Rattle.trdp_timers.specs.declared.order.Order.{Order}
use Rattle.trdp_store.specs.Timed.{ScheduleState, IsScheduled}
use Rattle.trdp_store.proofs.StoreLemmas.Slots.{KeysGive, IsReached}

-- One order.

one_order : (o : Option Order) → cond {A = ℕ} (is_some o) 1 0 ≤ 1
one_order None = omega arith
one_order (Some order) = omega arith

count_order : (o : Option Order) (orders : List (Option Order))
    → count_by is_some (o ∷ orders) ≡ cond {A = ℕ} (is_some o) 1 0 + count_by is_some orders
count_order o orders = sum_by-cons (λ (x : Option Order). cond {A = ℕ} (is_some x) 1 0) o orders

-- once the order of a key was set there is one more at most
one_more : (orders : List (Option Order)) (key : ℕ) (order : Option Order)
    → count_by is_some (set orders key order) ≤ count_by is_some orders + 1
one_more [] key order = omega arith
one_more (o ∷ os) zero order =
    omega (arith, count_order o os, count_order order os, one_order order)
one_more (o ∷ os) (suc key) order =
    omega (
      arith,
      count_order o os,
      count_order o (set os key order),
      one_more os key order,
    )

-- and one fewer at most
one_fewer : (orders : List (Option Order)) (key : ℕ) (order : Option Order)
    → count_by is_some orders ≤ count_by is_some (set orders key order) + 1
one_fewer [] key order = omega arith
one_fewer (o ∷ os) zero order = omega (arith, count_order o os, count_order order os, one_order o)
one_fewer (o ∷ os) (suc key) order =
    omega (
      arith,
      count_order o os,
      count_order o (set os key order),
      one_fewer os key order,
    )

-- The orders of objects.

-- no key has an order but that of an object
abbrev pub AreOrdersOf : List (Option Order) → List Keyed → Type 0
AreOrdersOf orders es = (k : ℕ) → by_key k es ≡ None → slice_index_or orders k None ≡ None

none_counted : (orders : List (Option Order))
    → ((k : ℕ) → slice_index_or orders k None ≡ None) → count_by is_some orders ≡ 0
none_counted [] none = refl
none_counted (o ∷ os) none =
    let here : cond {A = ℕ} (is_some o) 1 0 ≡ 0 =
    ap (λ (x : Option Order). cond {A = ℕ} (is_some x) 1 0) (none 0) in
    omega (arith, here, count_order o os, none_counted os (λ k. none (suc k)))

unset : (orders : List (Option Order)) (k : ℕ) → slice_index_or (set orders k None) k None ≡ None
unset [] k = refl
unset (o ∷ os) zero = refl
unset (o ∷ os) (suc k) = unset os k

orders_few : (orders : List (Option Order)) (es : List Keyed)
    → AreOrdersOf orders es → count_by is_some orders ≤ length es
orders_few orders [] of = omega (arith, none_counted orders (λ k. of k refl))
orders_few orders (e ∷ es) of =
    omega (arith, orders_few (set orders e.key None) es others, one_fewer orders e.key None)
  where
    others : AreOrdersOf (set orders e.key None) es
    others k nobody = either (e.key == k) refl
      where
        either : (b : Bool) → (e.key == k) ≡ b
            → slice_index_or (set orders e.key None) k None ≡ None
        either true is =
            let same : e.key ≡ k = grind (arith, nat_tests) in
            ap (λ (n : ℕ). slice_index_or (set orders e.key None) n None) (sym same)
            ∙ unset orders e.key
        either false is =
            let apart : k ≢ e.key = grind (arith, nat_tests) in
            get_or-set_other orders e.key k None None apart ∙ of k (rw is nobody)

-- a key that no object has has no order
pub orders_of : (table : TableState) (schedule : ScheduleState)
    → IsScheduled table schedule → KeysGive table → AreOrdersOf schedule.orders (all_objects table)
orders_of table schedule is gives k nobody = either (slice_index_or schedule.orders k None) refl
  where
    either : (o : Option Order) → slice_index_or schedule.orders k None ≡ o
        → slice_index_or schedule.orders k None ≡ None
    either None at = at
    either (Some order) at =
        let own = is.owned k order at in
        absurd (none-some own.keyed (sym nobody
        ∙ (ap (λ (n : ℕ). by_key n (all_objects table)) (sym own.key_is)
        ∙ gives order.slot order.handle own.keyed own.found)))

-- a schedule has no more orders than its table has objects
pub orders_counted : (table : TableState) (schedule : ScheduleState) → IsScheduled table schedule
    → KeysGive table → count_by is_some schedule.orders ≤ length (all_objects table)
orders_counted table schedule is gives =
    orders_few schedule.orders (all_objects table) (orders_of table schedule is gives)

-- nor has it once the order of an object was set
reset_counted : (table : TableState) (schedule : ScheduleState) (s h key : ℕ)
    (object : AnyObject) (order : Option Order) → IsScheduled table schedule → KeysGive table
    → IsReached table s h key object
    → count_by is_some (set schedule.orders key order) ≤ length (all_objects table)
reset_counted table schedule s h key object order is gives r =
    orders_few (set schedule.orders key order) (all_objects table) of
  where
    of : AreOrdersOf (set schedule.orders key order) (all_objects table)
    of k nobody =
        let apart : k ≢ key = λ same. none-some r.keyed (sym nobody
        ∙ (ap (λ (n : ℕ). by_key n (all_objects table)) (same ∙ r.key_is)
        ∙ gives s h r.keyed r.found)) in
        get_or-set_other schedule.orders key k order None apart
        ∙ orders_of table schedule is gives k nobody

-- What a call costs, by the room of the table.

-- a cost by the orders before and after
abbrev pub CostsByOrders : ℕ → List (Option Order) → List (Option Order) → ℕ → Type 0
CostsByOrders b before after cost =
    count_by is_some before < 2 ^ b → count_by is_some after < 2 ^ b → cost ≤ 2 * b + 2

-- the order of an object that was reached is set
pub reset_costs : (table : TableState) (schedule after : ScheduleState) (s h key : ℕ)
    (object : AnyObject) (order : Option Order) (b cost : ℕ)
    → IsScheduled table schedule → KeysGive table → length (all_objects table) ≤ room_of table
    → IsReached table s h key object → after.orders ≡ set schedule.orders key order
    → room_of table < 2 ^ b → CostsByOrders b schedule.orders after.orders cost
    → cost ≤ 2 * b + 2
reset_costs table schedule after s h key object order b cost is gives room r orders lt costs =
    let few = orders_counted table schedule is gives in
    let then = reset_counted table schedule s h key object order is gives r in
    costs (omega (arith, few, room, lt)) (rw orders (omega (arith, then, room, lt)))

-- the order of an object is set for which there was a place
pub added_costs : (table : TableState) (orders orders_then : List (Option Order))
    (key : ℕ) (order : Option Order) (b cost : ℕ)
    → count_by is_some orders ≤ length (all_objects table)
    → length (all_objects table) < room_of table → orders_then ≡ set orders key order
    → room_of table < 2 ^ b → CostsByOrders b orders orders_then cost → cost ≤ 2 * b + 2
added_costs table orders orders_then key order b cost few spare is lt costs =
    let more = one_more orders key order in
    costs (omega (arith, few, spare, lt)) (rw is (omega (arith, more, few, spare, lt)))
