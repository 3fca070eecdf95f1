use Rattle.std.proofs.Common.{length}
use Rattle.trdp_memory.proofs.arrivals.answer_take.Goals as goal

pub returns-then-fails-clause-known : goal.returns-then-fails-clause-known
returns-then-fails-clause-known c = c.failing_take.ensures.known (length c.args.arrivals.now)
