use Rattle.std.proofs.Common.{rules}
use Rattle.trdp_datagrams.proofs.first_listeners.handle_hit.Goals as goal

pub returns-then-addressed-clause-tests : goal.returns-then-addressed-clause-tests
returns-then-addressed-clause-tests c = search rules

pub returns-else-addressed-clause-tests : goal.returns-else-addressed-clause-tests
returns-else-addressed-clause-tests c = search rules
