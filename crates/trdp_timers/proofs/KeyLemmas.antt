-- A key comes into a heap, or leaves it.
-- For `Heap::admit`, `Timers::set` and `peek`, and for `WeightLemmas`.
-- By: what changes past a heap's end, or under a key that isn't in it, leaves it a heap.
use Rattle.std.proofs.Common.{inl, inr, ◌≡◌, ◌<◌, ◌-◌, ◌+◌, ◌/◌, ◌++◌, ℕ, List, []}
use Rattle.std.proofs.Common.{◌∷◌, length, get_or, set, Option, Some, None, false}
use Rattle.std.proofs.Common.{is_some, IsSome, refl, sym, ap, subst, ◌∙◌, arith}
use Rattle.std.proofs.lemmas.List.{get_or-set_same, get_or-set_other, get_or_append_left}
use Rattle.std.proofs.lemmas.List.{length_push, get_or_read, get_or_past, set-set, set-get_or}
use Rattle.std.proofs.lemmas.Bool.{cases_lt, false≢true}
use Rattle.trdp_timers.specs.declared.order.Order.{Order}
use Rattle.trdp_timers.specs.Orders.{goes_before}
use Rattle.trdp_timers.specs.Contents.{IsFirst}
use Rattle.trdp_timers.specs.Heap.{order_at, IsHeap, FitsAt, IsKept}
use Rattle.trdp_timers.proofs.OrderLemmas.{leads_none}
use Rattle.trdp_timers.proofs.StepLemmas.{first_leads}

-- a key that has an order is within
pub set_within : (orders : List (Option Order)) (k : ℕ)
    → IsSome (get_or orders k None) → k < length orders
set_within orders k some = elim (cases_lt k (length orders)) [
  | inl h ↦ h
  | inr h ↦ absurd (false≢true (ap is_some (sym (get_or_past orders k None h)) ∙ some))
]

-- a heap in which only what is past its end has changed
pub same_heap : (n : ℕ) (at to : ℕ → Option Order)
    → IsHeap n at → ((i : ℕ) → i < n → to i ≡ at i) → IsHeap n to
same_heap n at to heap same = λ i some inside.
    rw (same i inside, same ((i - 1) / 2) (omega arith)) (heap i some inside)

-- a heap with something new at its end
pub extended : (n : ℕ) (at to : ℕ → Option Order)
    → IsHeap n at → ((i : ℕ) → i < n → to i ≡ at i) → FitsAt (n + 1) to n None
extended n at to heap same = record {
  others = λ i some inside ne other.
      rw (same i (omega arith), same ((i - 1) / 2) (omega arith)) (heap i some (omega arith));
  above = λ some. leads_none _;
  below = λ i some inside is. absurd (omega arith);
}

pub none_of : {X : Type 0} (o : Option X) → is_some o ≡ false → o ≡ None
none_of None h = refl
none_of (Some x) h = absurd (false≢true (sym h))

-- a key has come into the heap
pub new_fits : (orders : List (Option Order)) (keys places ks : List ℕ)
    (limit key place : ℕ) (was : Option Order) → is_some was ≡ false → key < length orders
    → IsKept (set orders key was) keys places limit → ks ≡ keys ++ key ∷ []
    → place ≡ length keys → FitsAt (length ks) (order_at orders ks) place was
new_fits orders keys places ks limit key place was unset within kept e at_end =
    let before = set orders key was in
    let at_key : is_some (get_or before key None) ≡ false =
    ap is_some (get_or-set_same orders key was None within) ∙ unset in
    let len : length ks ≡ length keys + 1 = ap length e ∙ length_push keys key in
    let same : (i : ℕ) → i < length keys → order_at orders ks i ≡ order_at before keys i = λ i h.
    let front : get_or ks i 0 ≡ get_or keys i 0 = ap (λ (l : List ℕ). get_or l i 0) e
    ∙ get_or_append_left keys (key ∷ []) 0 i h in
    ap (λ (k : ℕ). get_or orders k None) front
    ∙ sym (get_or-set_other orders key (get_or keys i 0) was None (λ f. false≢true (sym
    (ap (λ (k : ℕ). is_some (get_or before k None)) f ∙ at_key) ∙ kept.placed.present i h))) in
    rw (len, at_end, none_of was unset)
    (extended (length keys) (order_at before keys) (order_at orders ks) kept.heap same)

-- a set that is undone
pub undone : (orders : List (Option Order)) (key : ℕ) (o was : Option Order)
    → was ≡ get_or orders key was → set (set orders key o) key was ≡ orders
undone orders key o was e = set-set orders key o was
    ∙ ap (set orders key) e ∙ set-get_or orders key was

-- the first key of a heap acts first
pub first_is : (orders : List (Option Order)) (keys places : List ℕ) (limit key : ℕ) (order : Order)
    → IsKept orders keys places limit → 0 < length keys → key ≡ get_or keys 0 0
    → (read : Option Order) → read ≡ get_or orders key read
    → read ≡ Some order → IsFirst orders key order
unfolding goes_before
first_is orders keys places limit key order kept some e read is_read is_some_order =
    let within : key < length orders = set_within orders key
    (subst (λ (k : ℕ). IsSome (get_or orders k None)) (sym e) (kept.placed.present 0 some)) in
    let is : get_or orders key None ≡ Some order =
    sym (get_or_read orders key read within is_read None) ∙ is_some_order in
    record {
      its_order = is;
      first = λ k other h.
          let set : IsSome (get_or orders k None) = ap is_some h in
          let i = get_or places k 0 in
          let leads = first_leads (length keys)
          (order_at orders keys) kept.heap (i + 1) i (omega arith) (kept.placed.found k set) in
          let at_i : order_at orders keys i ≡ Some other =
          ap (λ (j : ℕ). get_or orders j None) (kept.placed.named k set) ∙ h in
          let at_0 : order_at orders keys 0 ≡ Some order =
          ap (λ (j : ℕ). get_or orders j None) (sym e) ∙ is in
          subst (λ (o : Option Order). goes_before (Some other) o ≡ false) at_0 (subst
          (λ (o : Option Order). goes_before o (order_at orders keys 0) ≡ false) at_i leads);
    }
