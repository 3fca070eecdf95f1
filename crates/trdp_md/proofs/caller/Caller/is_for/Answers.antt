use Rattle.std.proofs.Common.{rules}
use Rattle.trdp_md.specs.Callers.{is_for_caller}
use Rattle.trdp_md.proofs.caller.Caller.is_for.Goals as goal

pub returns-then-eq : goal.returns-then-eq
unfolding is_for_caller
returns-then-eq c = search rules
