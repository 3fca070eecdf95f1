use Rattle.std.proofs.Common.{rules}
use Rattle.trdp_base.proofs.moment.Moment.new.Goals as goal

pub returns-else-microseconds-le-MOMENT_MAX-clause-valid :
    goal.returns-else-microseconds-le-MOMENT_MAX-clause-valid
returns-else-microseconds-le-MOMENT_MAX-clause-valid c = search rules

pub invariant_of-result : goal.invariant_of-result
invariant_of-result c = search rules

pub returns-then-microseconds-le-MOMENT_MAX-clause-valid :
    goal.returns-then-microseconds-le-MOMENT_MAX-clause-valid
returns-then-microseconds-le-MOMENT_MAX-clause-valid c = search rules
