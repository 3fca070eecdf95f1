use Rattle.std.proofs.Common.{rules}
use Rattle.trdp_engine.proofs.moment.push_again.Goals as goal

pub returns-in-Caller-clause-records : goal.returns-in-Caller-clause-records
returns-in-Caller-clause-records c = search rules
