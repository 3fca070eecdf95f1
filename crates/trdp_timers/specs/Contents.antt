-- What timers hold: a finite map from keys to orders.
use Rattle.std.specs.Prelude.{◌≡◌, ℕ, false, List, [], ◌∷◌, map, Option, Some, None}
use Rattle.std.specs.Prelude.{slice_index_or, slice_set, if◌then◌else◌}
use Rattle.trdp_timers.specs.declared.order.Order.{Order}
use Rattle.trdp_timers.specs.Orders.{is_sooner, is_due_by}

-- the order of each key below the room, where it has one, and the comparisons of the latest call
pub record TimersState : Type 0 where
  pub orders : List (Option Order)
  pub probes : ℕ

-- no key has an order
abbrev pub IsUnset : List (Option Order) → Type 0
IsUnset orders = (k : ℕ) → slice_index_or orders k None ≡ None

-- the key has this order, and no key has a sooner one
pub record IsFirst (orders : List (Option Order)) (key : ℕ) (order : Order) : Type 0 where
  pub its_order : slice_index_or orders key None ≡ Some order
  pub first : (k : ℕ) (other : Order) → slice_index_or orders k None ≡ Some other
      → is_sooner other order ≡ false

-- without the order of the key that was found, if one was
abbrev pub without : List (Option Order) → Option (ℕ × Order) → List (Option Order)
without orders None = orders
without orders (Some found) = slice_set orders found.0 None

-- the size of each key that is due by t, and 0 for the others
unfoldable pub due_sizes : ℕ → List (Option Order) → List ℕ → List ℕ
due_sizes t [] sizes = []
due_sizes t (order ∷ orders) [] = []
due_sizes t (order ∷ orders) (size ∷ sizes) =
    (if is_due_by t order then size else 0) ∷ due_sizes t orders sizes

-- 1 for each key that is due by t, and 0 for the others
abbrev pub due_ones : ℕ → List (Option Order) → List ℕ
due_ones t orders = map (λ order. if is_due_by t order then 1 else 0) orders
