use Rattle.trdp_md.proofs.CallerLemmas.{terms-taking}
use Rattle.trdp_md.proofs.ConfirmLemmas.{terms-confirming}
use Rattle.trdp_md.proofs.laws.caller_keeps.Goals as goal

pub returns-clause-taken : goal.returns-clause-taken
returns-clause-taken c = terms-taking

pub returns-clause-confirmed : goal.returns-clause-confirmed
returns-clause-confirmed c = terms-confirming
