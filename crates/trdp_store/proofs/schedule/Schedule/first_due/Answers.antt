use Rattle.std.proofs.Common.{arith}
use Rattle.trdp_store.proofs.DueLemmas.Next.{none_due_after}
use Rattle.trdp_store.proofs.schedule.Schedule.first_due.Goals as goal

pub returns-then-order-t-clause-first : goal.returns-then-order-t-clause-first
returns-then-order-t-clause-first c =
    none_due_after c.args.t c.in_ok-key.key c.args.self.now.orders c.in_ok-key.order
    (rw (← c.self.view_is) c.in_ok-key.ensures.first) (omega (arith, c.if-order-t.true))
