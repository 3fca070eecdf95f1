use Rattle.std.proofs.Common.{◌≡◌, ◌≤◌, ◌<◌, ◌+◌, ◌^◌, ℕ, Some, length}
use Rattle.trdp_timers.specs.Heap.{order_at, IsPlaced, CanRise}
use Rattle.trdp_timers.specs.Costs.{CanCountUp}
use Rattle.trdp_timers.proofs.path.rise.Given as goal

abbrev pub invariant-loop-place : goal.invariant-loop-place
invariant-loop-place l = record {
  within : l.place < length l.keys;
  placed : IsPlaced l.orders l.keys l.places;
  own : Some l.own ≡ order_at l.orders l.keys l.place;
  order : CanRise (length l.keys) (order_at l.orders l.keys) l.place;
  probes : CanCountUp l.place l.probes;
  count : length l.keys ≡ length l.fn.keys;
  places : length l.places ≡ length l.fn.places;
  least : l.fn.probes ≤ l.probes;
  cost : (b : ℕ) → l.fn.place + 1 < 2 ^ b → (j : ℕ)
      × (l.place + 1 < 2 ^ j) × (l.probes + j ≤ l.fn.probes + b);
}

abbrev pub decreases-loop-place : goal.decreases-loop-place
decreases-loop-place l = l.place
