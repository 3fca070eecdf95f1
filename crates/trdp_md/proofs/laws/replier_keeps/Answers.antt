use Rattle.trdp_md.proofs.ReplierLemmas.{keeps-taking, keeps-firing, keeps-queried}
use Rattle.trdp_md.proofs.laws.replier_keeps.Goals as goal

pub returns-clause-taken : goal.returns-clause-taken
returns-clause-taken c = keeps-taking

pub returns-clause-fired : goal.returns-clause-fired
returns-clause-fired c = keeps-firing

pub returns-clause-queried : goal.returns-clause-queried
returns-clause-queried c = keeps-queried
