-- How many are due, as they are removed one after another.
-- For the laws `one_fewer_is_due` and `first_is_due_first`.
-- By: the first of a heap acts before all others, so where it isn't due none is.
use Rattle.std.proofs.Common.{◌≡◌, ◌<◌, ◌+◌, ℕ, suc, List, [], ◌∷◌, length}
use Rattle.std.proofs.Common.{get_or, set, Option, Some, None, Bool, true, false}
use Rattle.std.proofs.Common.{cond, is_some, count_by, refl, ap, ◌∙◌, arith}
use Rattle.std.proofs.lemmas.List.Sums.{sum_by-cons, sum_by-set}
use Rattle.trdp_timers.specs.declared.order.Order.{Order}
use Rattle.trdp_timers.specs.Orders.{is_sooner, is_due_by}
use Rattle.trdp_timers.specs.Contents.{IsUnset, IsFirst}
use Rattle.trdp_timers.proofs.KeyLemmas.{set_within}
use Rattle.trdp_timers.proofs.DueLemmas.{sooner_due}

none_due : (t : ℕ) (orders : List (Option Order))
    → ((k : ℕ) → is_due_by t (get_or orders k None) ≡ false) → count_by (is_due_by t) orders ≡ 0
none_due t [] h = omega arith
none_due t (o ∷ orders) h =
    let here : cond {A = ℕ} (is_due_by t o) 1 0 ≡ 0 = ap (λ (b : Bool). cond {A = ℕ} b 1 0) (h 0) in
    omega (
      arith,
      here,
      sum_by-cons (λ (x : Option Order). cond {A = ℕ} (is_due_by t x) 1 0)
          o orders,
      none_due t orders (λ k. h (suc k)),
    )

pub none_of_unset : (orders : List (Option Order)) (t : ℕ)
    → IsUnset orders → count_by (is_due_by t) orders ≡ 0
none_of_unset orders t unset = none_due t orders (λ k. ap (is_due_by t) (unset k))

not_due : (t : ℕ) (orders : List (Option Order)) (order : Order) (k : ℕ) (at : Option Order)
    → get_or orders k None ≡ at
    → ((other : Order) → get_or orders k None ≡ Some other → is_sooner other order ≡ false)
    → is_due_by t (Some order) ≡ false → is_due_by t at ≡ false
not_due t orders order k None is sooner late = refl
not_due t orders order k (Some other) is sooner late =
    sooner_due t order other (sooner other is) late

pub none_after_first : (orders : List (Option Order)) (key : ℕ) (order : Order) (t : ℕ)
    → IsFirst orders key order → is_due_by t (Some order) ≡ false
    → count_by (is_due_by t) orders ≡ 0
none_after_first orders key order t first late = none_due t
    orders (λ k. not_due t orders order k (get_or orders k None) refl (first.first k) late)

pub one_fewer : (orders : List (Option Order)) (key : ℕ) (order : Order) (t : ℕ)
    → get_or orders key None ≡ Some order → is_due_by t (Some order) ≡ true
    → count_by (is_due_by t) (set orders key None) + 1 ≡ count_by (is_due_by t) orders
one_fewer orders key order t is due =
    let within : key < length orders = set_within orders key (ap is_some is) in
    let one : cond {A = ℕ} (is_due_by t (get_or orders key None)) 1 0 ≡ 1 =
    ap (λ (o : Option Order). cond {A = ℕ} (is_due_by t o) 1 0) is
    ∙ ap (λ (b : Bool). cond {A = ℕ} b 1 0) due in
    omega (
      arith,
      one,
      sum_by-set (λ (x : Option Order). cond {A = ℕ} (is_due_by t x) 1 0)
          orders key None None within,
    )
