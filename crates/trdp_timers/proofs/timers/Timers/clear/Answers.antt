use Rattle.std.proofs.Common.{arith}
use Rattle.std.proofs.lemmas.Grind.{common_steps}
use Rattle.trdp_timers.proofs.timers.Timers.clear.Goals as goal

pub returns-then-is_none-clause-orders : goal.returns-then-is_none-clause-orders
returns-then-is_none-clause-orders c = grind (arith, common_steps)
