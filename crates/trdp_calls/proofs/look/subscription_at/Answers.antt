use Rattle.std.proofs.Common.{rules}
use Rattle.trdp_calls.proofs.look.subscription_at.Goals as goal

pub returns-in-None-clause-fault : goal.returns-in-None-clause-fault
returns-in-None-clause-fault c = search rules
