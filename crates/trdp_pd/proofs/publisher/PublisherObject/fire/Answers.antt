use Rattle.std.proofs.Common.{rules}
use Rattle.trdp_pd.proofs.publisher.PublisherObject.fire.Goals as goal

pub returns-then-may_send-clause-state : goal.returns-then-may_send-clause-state
returns-then-may_send-clause-state c = search rules

pub returns-else-may_send-clause-state : goal.returns-else-may_send-clause-state
returns-else-may_send-clause-state c = search rules
