use Rattle.std.proofs.Common.{rules}
use Rattle.trdp_timers.specs.Orders.{goes_before}
use Rattle.trdp_timers.proofs.order.is_due.Goals as goal

pub returns-clause-answer : goal.returns-clause-answer
unfolding goes_before
returns-clause-answer c = search rules
