use Rattle.std.proofs.Common.{◌≡◌, replicate}
use Rattle.trdp_lines.specs.Seats.{free_seat}
use Rattle.trdp_lines.proofs.seats.free_seats_in.Given as goal

abbrev pub invariant-loop : goal.invariant-loop
invariant-loop l = l.seats.items ≡ replicate l.counter free_seat
