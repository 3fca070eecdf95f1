-- A binary heap of keys, and the place of each key.
use Rattle.std.specs.Prelude.{◌≡◌, ◌≢◌, ℕ, ◌-◌, ◌/◌, ◌<◌, ◌≤◌, List, length, Option, None}
use Rattle.std.specs.Prelude.{is_some, IsSome, count_by, slice_index, slice_index_or}
use Rattle.trdp_timers.specs.declared.order.Order.{Order}
use Rattle.trdp_timers.specs.Orders.{Leads}

-- the order of the key at a place
abbrev pub order_at : List (Option Order) → List ℕ → ℕ → Option Order
order_at orders keys i = slice_index_or orders (slice_index keys i) None

-- each key has an order
abbrev pub AllSet : List (Option Order) → List ℕ → Type 0
AllSet orders keys = (i : ℕ) → i < length keys → IsSome (order_at orders keys i)

-- none of the first n goes before the one at half its place
abbrev pub IsHeap : ℕ → (ℕ → Option Order) → Type 0
IsHeap n at = (i : ℕ) → 0 < i → i < n → Leads (at ((i - 1) / 2)) (at i)

-- it would be a heap with `was` at the place p
pub record FitsAt (n : ℕ) (at : ℕ → Option Order) (p : ℕ) (was : Option Order) : Type 0 where
  pub others : (i : ℕ) → 0 < i → i < n → i ≢ p → (i - 1) / 2 ≢ p → Leads (at ((i - 1) / 2)) (at i)
  pub above : 0 < p → Leads (at ((p - 1) / 2)) was
  pub below : (i : ℕ) → 0 < i → i < n → (i - 1) / 2 ≡ p → Leads was (at i)

-- it would be a heap if what is at p came later
abbrev pub CanRise : ℕ → (ℕ → Option Order) → ℕ → Type 0
CanRise n at p = (was : Option Order) × FitsAt n at p was × Leads (at p) was

-- it would be a heap with something else at p
abbrev pub CanSink : ℕ → (ℕ → Option Order) → ℕ → Type 0
CanSink n at p = (was : Option Order) × FitsAt n at p was

-- what was at a and b has been exchanged
pub record IsSwapped (at to : ℕ → Option Order) (a b : ℕ) : Type 0 where
  pub first : to a ≡ at b
  pub second : to b ≡ at a
  pub others : (i : ℕ) → i ≢ a → i ≢ b → to i ≡ at i

-- the keys are those that have an order, and each is where its place says
pub record IsPlaced (orders : List (Option Order)) (keys places : List ℕ) : Type 0 where
  pub within : (i : ℕ) → i < length keys → slice_index keys i < length places
  pub listed : (i : ℕ) → i < length keys → slice_index places (slice_index keys i) ≡ i
  pub present : (i : ℕ) → i < length keys → IsSome (order_at orders keys i)
  pub found : (k : ℕ) → IsSome (slice_index_or orders k None)
      → slice_index places k < length keys
  pub named : (k : ℕ) → IsSome (slice_index_or orders k None)
      → slice_index keys (slice_index places k) ≡ k

-- what timers keep beside the orders: a heap of the keys that have one, with room for all keys
pub record IsKept (orders : List (Option Order)) (keys places : List ℕ) (limit : ℕ) : Type 0 where
  pub placed : IsPlaced orders keys places
  pub heap : IsHeap (length keys) (order_at orders keys)
  pub count : length keys ≡ count_by is_some orders
  pub room : length places ≡ length orders
  pub capacity : length orders ≤ limit
