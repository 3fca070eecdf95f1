-- A heap weighs what is due of all keys.
-- For `Timers::due_totals`.
-- By `WeightLemmas`, with a key's size or 1 as its weight where it is due, and 0 where it isn't.
use Rattle.std.proofs.Common.{◌≡◌, ◌≤◌, ◌<◌, ◌^◌, ◌∙◌, ℕ, List, length, Option, sum, count_by, ap}
use Rattle.std.proofs.lemmas.List.{length-map}
use Rattle.trdp_timers.specs.declared.order.Order.{Order}
use Rattle.trdp_timers.specs.Orders.{is_due_by}
use Rattle.trdp_timers.specs.Contents.{due_sizes, due_ones}
use Rattle.trdp_timers.specs.Heap.{IsPlaced}
use Rattle.trdp_timers.specs.Levels.{below, weight_at}
use Rattle.trdp_timers.proofs.WeightLemmas.{weighs}
use Rattle.trdp_timers.proofs.DueLemmas.{length_sizes, unset_size, unset_one, sum_ones}

-- by its sizes
pub sizes_weigh : (t : ℕ) (orders : List (Option Order)) (sizes keys places : List ℕ)
    → IsPlaced orders keys places → length orders ≤ length sizes
    → (d : ℕ) → length keys < 2 ^ d
    → below (weight_at (due_sizes t orders sizes) keys) d 0 ≡ sum (due_sizes t orders sizes)
sizes_weigh t orders sizes keys places placed long d deep =
    weighs orders keys places (due_sizes t orders sizes) placed (length_sizes t orders sizes long)
    (λ k e. unset_size t orders sizes k long (ap (is_due_by t) e)) d deep

-- by number
pub ones_weigh : (t : ℕ) (orders : List (Option Order)) (keys places : List ℕ)
    → IsPlaced orders keys places
    → (d : ℕ) → length keys < 2 ^ d
    → below (weight_at (due_ones t orders) keys) d 0 ≡ count_by (is_due_by t) orders
ones_weigh t orders keys places placed d deep =
    weighs orders keys places (due_ones t orders) placed (length-map orders _)
    (λ k e. unset_one t orders k (ap (is_due_by t) e)) d deep ∙ sum_ones t orders
