use Rattle.trdp_md.proofs.CallerLemmas.{queries-new, queries-taking}
use Rattle.trdp_md.proofs.ConfirmLemmas.{queries-confirming}
use Rattle.trdp_md.proofs.laws.caller_awaits_queries_only.Goals as goal

pub returns-clause-new : goal.returns-clause-new
returns-clause-new c = queries-new

pub returns-clause-taken : goal.returns-clause-taken
returns-clause-taken c = queries-taking

pub returns-clause-confirmed : goal.returns-clause-confirmed
returns-clause-confirmed c = queries-confirming
