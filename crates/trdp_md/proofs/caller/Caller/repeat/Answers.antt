use Rattle.std.proofs.Common.{rules}
use Rattle.trdp_md.proofs.caller.Caller.repeat.Goals as goal

pub returns-clause-outcome : goal.returns-clause-outcome
returns-clause-outcome c = search rules

pub returns-then-not-topo_valid-clause-state : goal.returns-then-not-topo_valid-clause-state
returns-then-not-topo_valid-clause-state c = search rules

pub returns-clause-state : goal.returns-clause-state
returns-clause-state c = search rules
