use Rattle.std.proofs.Common.{rules}
use Rattle.trdp_store.proofs.schedule.Schedule.change.Goals as goal

pub returns-clause-orders : goal.returns-clause-orders
returns-clause-orders c = search rules
