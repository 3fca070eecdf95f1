use Rattle.std.proofs.Common.{rules}
use Rattle.trdp_md.specs.Callers.{is_repeating}
use Rattle.trdp_md.proofs.caller.Caller.is_repeating.Goals as goal

pub returns-then-is_empty-clause-value : goal.returns-then-is_empty-clause-value
unfolding is_repeating
returns-then-is_empty-clause-value c = search rules
