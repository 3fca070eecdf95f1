use Rattle.std.proofs.Common.{◌≡◌, ℕ, replicate, subst, arith}
use Rattle.std.proofs.lemmas.List.{replicate-append-replicate}
use Rattle.trdp_lines.specs.Seats.{free_seat}
use Rattle.trdp_lines.proofs.seats.free_seats_in.Goals as goal

pub loop-preserved : goal.loop-preserved
loop-preserved c = rw (c.in_ok-push.ensures.items, c.in_ok-new.ensures, c.loop.invariant)
    (replicate-append-replicate c.loop.counter 1 free_seat)

pub returns : goal.returns
returns c =
    let all : c.loop.counter ≡ c.args.count = omega arith in
    subst (λ (n : ℕ). c.loop.seats.items ≡ replicate n free_seat) all c.loop.invariant
