-- What is due is at the top of a heap.
-- For `Heap::due_below` and `due_at`, `Timers::due_totals`, and for `FewerLemmas`.
-- By: below what isn't due nothing is, so a walk from the top adds up all that is due.
use Rattle.std.proofs.Common.{◌≡◌, ◌≤◌, ◌<◌, ◌-◌, ◌+◌, ◌*◌, ◌/◌, ◌^◌, inl, inr, ℕ, zero, suc, List}
use Rattle.std.proofs.Common.{[], ◌∷◌, length, get_or, map, Option, Some, None, Bool, true, false}
use Rattle.std.proofs.Common.{cond, is_some, count_by, sum, refl, sym, ap, subst, ◌∙◌, arith}
use Rattle.std.proofs.lemmas.List.{get_or-map, get_or_past, get_or_read, length-map}
use Rattle.std.proofs.lemmas.List.Sums.{sum_by-cons, sum-map}
use Rattle.std.proofs.lemmas.Bool.{cases_lt}
use Rattle.std.proofs.lemmas.Bool.Decides.{nat_tests}
use Rattle.trdp_timers.specs.declared.order.Order.{Order}
use Rattle.trdp_timers.specs.Orders.{Leads, goes_before, is_sooner, is_due_by}
use Rattle.trdp_timers.specs.Contents.{due_sizes, due_ones}
use Rattle.trdp_timers.specs.Heap.{order_at, IsHeap}
use Rattle.trdp_timers.specs.Levels.{below, weight_at, CanAdd, CanCountDue}
use Rattle.trdp_timers.proofs.PathLemmas.{halve}

pub sooner_due : (t : ℕ) (a b : Order) → is_sooner b a ≡ false
    → is_due_by t (Some a) ≡ false → is_due_by t (Some b) ≡ false
sooner_due t a b h k = grind (arith, nat_tests)

leads_due : (t : ℕ) (a b : Option Order) → Leads a b → is_due_by t a ≡ false → is_due_by t b ≡ false
unfolding goes_before
leads_due t a None h k = refl
leads_due t None (Some b) h k = cc
leads_due t (Some a) (Some b) h k = sooner_due t a b h k

pub size_at : (t : ℕ) (orders : List (Option Order)) (sizes : List ℕ) (k : ℕ)
    → length orders ≤ length sizes → get_or (due_sizes t orders sizes) k 0
    ≡ cond {A = ℕ} (is_due_by t (get_or orders k None)) (get_or sizes k 0) 0
unfolding due_sizes
size_at t [] sizes k h = refl
size_at t (o ∷ orders) [] k h = absurd (omega arith)
size_at t (o ∷ orders) (s ∷ sizes) zero h = refl
size_at t (o ∷ orders) (s ∷ sizes) (suc k) h = size_at t orders sizes k (omega arith)

pub length_sizes : (t : ℕ) (orders : List (Option Order)) (sizes : List ℕ)
    → length orders ≤ length sizes → length (due_sizes t orders sizes) ≡ length orders
unfolding due_sizes
length_sizes t [] sizes h = refl
length_sizes t (o ∷ orders) [] h = absurd (omega arith)
length_sizes t (o ∷ orders) (s ∷ sizes) h = let r =
    length_sizes t orders sizes (omega arith) in omega arith

pub one_at : (t : ℕ) (orders : List (Option Order)) (k : ℕ)
    → get_or (due_ones t orders) k 0 ≡ cond {A = ℕ} (is_due_by t (get_or orders k None)) 1 0
one_at t [] k = refl
one_at t (o ∷ orders) zero = refl
one_at t (o ∷ orders) (suc k) = one_at t orders k

at_most : (b : Bool) (s : ℕ) → cond {A = ℕ} b s 0 ≤ s
at_most true s = omega arith
at_most false s = omega arith

pub sum_sizes : (t : ℕ) (orders : List (Option Order)) (sizes : List ℕ)
    → sum (due_sizes t orders sizes) ≤ sum sizes
unfolding due_sizes
sum_sizes t [] sizes = omega arith
sum_sizes t (o ∷ orders) [] = omega arith
sum_sizes t (o ∷ orders) (s ∷ sizes) =
    omega (
      arith,
      sum_by-cons (λ (y : ℕ). y) s sizes,
      sum_by-cons (λ (y : ℕ). y) (cond {A = ℕ} (is_due_by t o) s 0) (due_sizes t orders sizes),
      at_most (is_due_by t o) s,
      sum_sizes t orders sizes,
    )

pub sum_ones : (t : ℕ) (orders : List (Option Order))
    → sum (due_ones t orders) ≡ count_by (is_due_by t) orders
sum_ones t orders = sum-map (λ (o : Option Order). cond {A = ℕ} (is_due_by t o) 1 0) orders

due_is_set : (t : ℕ) (o : Option Order)
    → cond {A = ℕ} (is_due_by t o) 1 0 ≤ cond {A = ℕ} (is_some o) 1 0
due_is_set t None = omega arith
due_is_set t (Some o) = at_most (is_due_by t (Some o)) 1

pub count_due : (t : ℕ) (orders : List (Option Order))
    → count_by (is_due_by t) orders ≤ count_by is_some orders
count_due t [] = omega arith
count_due t (o ∷ orders) =
    omega (
      arith,
      sum_by-cons (λ (x : Option Order). cond {A = ℕ} (is_due_by t x) 1 0) o orders,
      sum_by-cons (λ (x : Option Order). cond {A = ℕ} (is_some x) 1 0) o orders,
      due_is_set t o,
      count_due t orders,
    )

pub unset_size : (t : ℕ) (orders : List (Option Order)) (sizes : List ℕ) (k : ℕ)
    → length orders ≤ length sizes → is_due_by t (get_or orders k None) ≡ false
    → get_or (due_sizes t orders sizes) k 0 ≡ 0
unset_size t orders sizes k h e = size_at t orders sizes k h
    ∙ ap (λ (b : Bool). cond {A = ℕ} b (get_or sizes k 0) 0) e

pub unset_one : (t : ℕ) (orders : List (Option Order)) (k : ℕ)
    → is_due_by t (get_or orders k None) ≡ false → get_or (due_ones t orders) k 0 ≡ 0
unset_one t orders k e = one_at t orders k ∙ ap (λ (b : Bool). cond {A = ℕ} b 1 0) e

weight_is : (ws keys : List ℕ) (p : ℕ) → p < length keys
    → weight_at ws keys p ≡ get_or ws (get_or keys p 0) 0
weight_is ws keys p h = get_or-map (λ k. get_or ws k 0) keys p 0 0 h

pub weight_size : (t : ℕ) (orders : List (Option Order)) (sizes keys : List ℕ) (p key : ℕ)
    → length orders ≤ length sizes → p < length keys
    → key ≡ get_or keys p key → is_due_by t (order_at orders keys p) ≡ true
    → weight_at (due_sizes t orders sizes) keys p ≡ get_or sizes key 0
weight_size t orders sizes keys p key long h read due =
    let is : key ≡ get_or keys p 0 = get_or_read keys p key h read 0 in
    weight_is (due_sizes t orders sizes) keys p h ∙ size_at t orders sizes (get_or keys p 0) long
    ∙ ap (λ (b : Bool). cond {A = ℕ} b (get_or sizes (get_or keys p 0) 0) 0) due
    ∙ ap (λ (k : ℕ). get_or sizes k 0) (sym is)

pub weight_one : (t : ℕ) (orders : List (Option Order)) (keys : List ℕ) (p : ℕ) → p < length keys
    → is_due_by t (order_at orders keys p) ≡ true → weight_at (due_ones t orders) keys p ≡ 1
weight_one t orders keys p h due = weight_is (due_ones t orders) keys p h
    ∙ one_at t orders (get_or keys p 0) ∙ ap (λ (b : Bool). cond {A = ℕ} b 1 0) due

-- nothing is due below what isn't due
pub none_below : (t : ℕ) (orders : List (Option Order)) (keys ws : List ℕ)
    → ((k : ℕ) → is_due_by t (get_or orders k None) ≡ false → get_or ws k 0 ≡ 0)
    → IsHeap (length keys) (order_at orders keys)
    → (d p : ℕ) → (p < length keys → is_due_by t (order_at orders keys p) ≡ false)
    → below (weight_at ws keys) d p ≡ 0
unfolding below
none_below t orders keys ws unset heap zero p undue = refl
none_below t orders keys ws unset heap (suc d) p undue =
    let here : weight_at ws keys p ≡ 0 = elim (cases_lt p (length keys)) [
      | inl h ↦ weight_is ws keys p h ∙ unset (get_or keys p 0) (undue h)
      | inr h ↦ get_or_past (map (λ k. get_or ws k 0) keys)
          p 0 (omega (arith, length-map keys (λ k. get_or ws k 0)))
    ] in
    let child : (c : ℕ) → (c - 1) / 2 ≡ p → 0 < c
    → c < length keys → is_due_by t (order_at orders keys c) ≡ false = λ c e some h.
    leads_due t (order_at orders keys p) (order_at orders keys c)
    (subst (λ (k : ℕ). Leads (order_at orders keys k) (order_at orders keys c))
    e (heap c some h)) (undue (omega arith)) in
    let left = none_below t orders keys ws unset
    heap d (2 * p + 1) (child (2 * p + 1) (omega arith) (omega arith)) in
    let right = none_below t orders keys ws unset
    heap d (2 * p + 2) (child (2 * p + 2) (omega arith) (omega arith)) in
    omega arith

abbrev pub Exact : ℕ → (ℕ → ℕ) → ℕ → ℕ → Type 0
Exact n f p x = (d : ℕ) → n < (p + 1) * 2 ^ d → x ≡ below f d p

pub add_left : (n p : ℕ) (f : ℕ → ℕ) → p < n → CanAdd n f p → CanAdd n f (2 * p + 1)
unfolding below
add_left n p f within (zero, deep, fits) = absurd (omega arith)
add_left n p f within (suc d, deep, fits) =
    (d, halve n p (2 * p + 1) d (omega arith) deep, omega arith)

pub add_right : (n p : ℕ) (f : ℕ → ℕ) → p < n → CanAdd n f p → CanAdd n f (2 * p + 2)
unfolding below
add_right n p f within (zero, deep, fits) = absurd (omega arith)
add_right n p f within (suc d, deep, fits) =
    (d, halve n p (2 * p + 2) d (omega arith) deep, omega arith)

pub total_is : (n p x l r : ℕ) (f : ℕ → ℕ) → p < n
    → f p ≡ x → Exact n f (2 * p + 1) l → Exact n f (2 * p + 2) r → Exact n f p (x + l + r)
unfolding below
total_is n p x l r f within e left right = λ d.
    elim d as (λ d. n < (p + 1) * 2 ^ d → x + l + r ≡ below f d p) [
      | zero ↦ λ deep. absurd (omega arith)
      | suc d ↦ λ deep.
          let a = left d (halve n p (2 * p + 1) d (omega arith) deep) in
          let b = right d (halve n p (2 * p + 2) d (omega arith) deep) in
          omega arith
    ]

pub total_fits : (n p x l r : ℕ) (f : ℕ → ℕ) → p < n → f p ≡ x
    → Exact n f (2 * p + 1) l → Exact n f (2 * p + 2) r → CanAdd n f p → x + l + r < 2 ^ 64
total_fits n p x l r f within e left right (d, deep, fits) =
    let t = total_is n p x l r f within e left right d deep in omega arith

pub count_due_left : (n p probes now : ℕ) (f : ℕ → ℕ) → p < n
    → f p ≡ 1 → now ≡ probes + 1 → CanCountDue n f p probes → CanCountDue n f (2 * p + 1) now
unfolding below
count_due_left n p probes now f within e one (zero, deep, fits) = absurd (omega arith)
count_due_left n p probes now f within e one (suc d, deep, fits) =
    (d, halve n p (2 * p + 1) d (omega arith) deep, omega arith)

abbrev pub Costs : ℕ → (ℕ → ℕ) → ℕ → ℕ → ℕ → Type 0
Costs n f p probes now = (d : ℕ) → n < (p + 1) * 2 ^ d → now ≤ probes + 2 * below f d p + 1

pub count_due_right : (n p probes now then : ℕ) (f : ℕ → ℕ) → p < n → f p ≡ 1 → now ≡ probes + 1
    → Costs n f (2 * p + 1) now then → CanCountDue n f p probes → CanCountDue n f (2 * p + 2) then
unfolding below
count_due_right n p probes now then f within e one left (zero, deep, fits) = absurd (omega arith)
count_due_right n p probes now then f within e one left (suc d, deep, fits) =
    let a = left d (halve n p (2 * p + 1) d (omega arith) deep) in
    (d, halve n p (2 * p + 2) d (omega arith) deep, omega arith)

pub costs_due : (n p probes now then last : ℕ) (f : ℕ → ℕ) → p < n → f p ≡ 1 → now ≡ probes + 1
    → Costs n f (2 * p + 1) now then → Costs n f (2 * p + 2) then last → Costs n f p probes last
unfolding below
costs_due n p probes now then last f within e one left right =
    λ d. elim d as (λ d. n < (p + 1) * 2 ^ d → last ≤ probes + 2 * below f d p + 1) [
      | zero ↦ λ deep. absurd (omega arith)
      | suc d ↦ λ deep.
          let a = left d (halve n p (2 * p + 1) d (omega arith) deep) in
          let b = right d (halve n p (2 * p + 2) d (omega arith) deep) in
          omega arith
    ]

abbrev pub CostsAtLeast : ℕ → (ℕ → ℕ) → ℕ → ℕ → ℕ → Type 0
CostsAtLeast n f p probes now = (d : ℕ) → n < (p + 1) * 2 ^ d → probes + below f d p ≤ now

pub least_due : (n p probes now then last : ℕ) (f : ℕ → ℕ) → p < n → f p ≡ 1 → now ≡ probes + 1
    → CostsAtLeast n f (2 * p + 1) now then → CostsAtLeast n f (2 * p + 2) then last
    → CostsAtLeast n f p probes last
unfolding below
least_due n p probes now then last f within e one left right =
    λ d. elim d as (λ d. n < (p + 1) * 2 ^ d → probes + below f d p ≤ last) [
      | zero ↦ λ deep. absurd (omega arith)
      | suc d ↦ λ deep.
          let a = left d (halve n p (2 * p + 1) d (omega arith) deep) in
          let b = right d (halve n p (2 * p + 2) d (omega arith) deep) in
          omega arith
    ]
