use Rattle.std.proofs.Common.{rules}
use Rattle.trdp_md.specs.Callers.{is_accepted_answer}
use Rattle.trdp_md.proofs.caller.Caller.accepts.Goals as goal

pub returns-then-has_place-clause-value : goal.returns-then-has_place-clause-value
unfolding is_accepted_answer
returns-then-has_place-clause-value c = search rules
