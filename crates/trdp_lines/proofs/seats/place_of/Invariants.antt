use Rattle.std.proofs.Common.{ℕ, ◌<◌, ◌≢◌}
use Rattle.trdp_lines.specs.Seats.{seat_at}
use Rattle.trdp_lines.proofs.seats.place_of.Given as goal

abbrev pub invariant-loop-place : goal.invariant-loop-place
invariant-loop-place l = (k : ℕ) → k < l.place → (seat_at l.seats k).number ≢ l.number
