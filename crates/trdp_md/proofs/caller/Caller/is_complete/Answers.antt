use Rattle.std.proofs.Common.{rules}
use Rattle.trdp_md.specs.Callers.{is_complete}
use Rattle.trdp_md.proofs.caller.Caller.is_complete.Goals as goal

pub returns-then-expected-answers : goal.returns-then-expected-answers
unfolding is_complete
returns-then-expected-answers c = search rules
