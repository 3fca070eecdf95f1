-- The due moment of the first order of all is the least by which something is due.
-- For `Store::soonest`.
-- By: before that moment no order is due, and at it one is.
use Rattle.std.proofs.Common.{◌≡◌, ℕ, zero, suc, ◌<◌, ◌≤◌, List, [], ◌∷◌, Option, Some, None}
use Rattle.std.proofs.Common.{Bool, true, ◌+◌, ◌∙◌, sym, ap, subst, arith, cond, count_by}
use Rattle.std.proofs.lemmas.List.Sums.{sum_by-cons}
use Rattle.std.specs.Prelude.{slice_index_or, MatchOption}
use Rattle.std.proofs.lemmas.Bool.Decides.{nat_tests}
use Rattle.trdp_table.specs.Tables.{TableState}
use Rattle.trdp_table.specs.TableLaws.{IsTable}
use Rattle.trdp_timers.specs.declared.order.Order.{Order}
use Rattle.trdp_timers.specs.Orders.{is_due_by}
use Rattle.trdp_timers.specs.Contents.{IsUnset}
use Rattle.trdp_store.specs.TableSlots.{slots_of}
use Rattle.trdp_model.specs.NodeModels.{IsNextDue}
use Rattle.trdp_store.specs.Timed.{ScheduleState, IsScheduled, IsNoneDue, IsSoonest}
use Rattle.trdp_store.proofs.DueLemmas.Next.{none_due_after}
use Rattle.trdp_store.proofs.StoreLemmas.Keys.{KeysTell}
use Rattle.trdp_store.proofs.DueLemmas.Room.{due_counted}

-- an order and those after it, counted
count_due : (t : ℕ) (o : Option Order) (orders : List (Option Order))
    → count_by (is_due_by t) (o ∷ orders)
    ≡ cond {A = ℕ} (is_due_by t o) 1 0 + count_by (is_due_by t) orders
count_due t o orders =
    sum_by-cons (λ (x : Option Order). cond {A = ℕ} (is_due_by t x) 1 0) o orders

-- where no order is due none is counted
none_counted : (t : ℕ) (orders : List (Option Order)) → IsNoneDue t orders
    → count_by (is_due_by t) orders ≡ 0
none_counted t [] none = omega arith
none_counted t (o ∷ orders) none =
    let here : cond {A = ℕ} (is_due_by t o) 1 0 ≡ 0 =
    ap (λ (b : Bool). cond {A = ℕ} b 1 0) (none 0) in
    let rest = none_counted t orders (λ k. none (suc k)) in
    omega (arith, here, count_due t o orders, rest)

-- where one is due it is counted
one_counted : (t key : ℕ) (orders : List (Option Order)) (order : Order)
    → slice_index_or orders key None ≡ Some order → order.due ≤ t
    → 0 < count_by (is_due_by t) orders
one_counted t key [] order at due = absurd (cc)
one_counted t zero (o ∷ orders) order at due =
    let is : is_due_by t (Some order) ≡ true = grind (arith, nat_tests) in
    let here : cond {A = ℕ} (is_due_by t o) 1 0 ≡ 1 =
    ap (λ (b : Bool). cond {A = ℕ} b 1 0) (ap (is_due_by t) at ∙ is) in
    omega (arith, here, count_due t o orders)
one_counted t (suc key) (o ∷ orders) order at due =
    let rest = one_counted t key orders order at due in
    omega (arith, rest, count_due t o orders)

-- where no key has an order nothing will ever be due
pub none_is_next : (table : TableState) (schedule : ScheduleState)
    (is : IsScheduled table schedule) (sound : IsTable table) (tell : KeysTell table)
    (result : Option Order) → MatchOption result (IsUnset schedule.orders)
    (λ order. IsSoonest schedule.orders order)
    → result ≡ None → IsNextDue (slots_of table) None
none_is_next table schedule is sound tell result first none =
    let unset = subst (λ (found : Option Order). MatchOption found (IsUnset schedule.orders)
    (λ order. IsSoonest schedule.orders order)) none first in
    λ t. sym (due_counted table schedule t is sound tell)
    ∙ none_counted t schedule.orders (λ k. ap (is_due_by t) (unset k))

-- the due moment of the first order is when something is due next
pub first_is_next : (table : TableState) (schedule : ScheduleState)
    (is : IsScheduled table schedule) (sound : IsTable table) (tell : KeysTell table)
    (result : Option Order) → MatchOption result (IsUnset schedule.orders)
    (λ order. IsSoonest schedule.orders order)
    → (order : Order) → result ≡ Some order → IsNextDue (slots_of table) (Some order.due)
first_is_next table schedule is sound tell result first order some =
    let soonest = subst (λ (found : Option Order). MatchOption found (IsUnset schedule.orders)
    (λ order. IsSoonest schedule.orders order)) some first in (
      rw (sym (due_counted table schedule order.due is sound tell))
          (one_counted order.due soonest.key schedule.orders order soonest.first.its_order
          (omega arith)),
      λ t sooner. sym (due_counted table schedule t is sound tell)
          ∙ none_counted t schedule.orders
          (none_due_after t soonest.key schedule.orders order soonest.first sooner),
    )
