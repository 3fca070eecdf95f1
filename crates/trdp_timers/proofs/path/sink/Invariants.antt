use Rattle.std.proofs.Common.{◌≡◌, ◌≤◌, ◌<◌, ◌-◌, ◌+◌, ◌*◌, ◌^◌, ℕ, length}
use Rattle.trdp_timers.specs.Heap.{order_at, IsPlaced, CanSink}
use Rattle.trdp_timers.specs.Costs.{CanCountDown}
use Rattle.trdp_timers.proofs.path.sink.Given as goal

abbrev pub invariant-loop-place : goal.invariant-loop-place
invariant-loop-place l = record {
  within : l.place < length l.keys;
  placed : IsPlaced l.orders l.keys l.places;
  order : CanSink (length l.keys) (order_at l.orders l.keys) l.place;
  probes : CanCountDown (length l.keys) l.place l.probes;
  count : length l.keys ≡ length l.fn.keys;
  places : length l.places ≡ length l.fn.places;
  least : l.fn.probes ≤ l.probes;
  cost : (b : ℕ) → length l.fn.keys < (l.fn.place + 1) * 2 ^ b → (j : ℕ)
      × (length l.keys < (l.place + 1) * 2 ^ j) × (l.probes + j ≤ l.fn.probes + b);
}

abbrev pub decreases-loop-place : goal.decreases-loop-place
decreases-loop-place l = 2 ^ 64 - l.place
