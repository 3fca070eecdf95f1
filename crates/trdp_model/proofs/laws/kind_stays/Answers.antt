use Rattle.trdp_model.proofs.ObjectLemmas.{kind-taking, kind-firing}
use Rattle.trdp_model.proofs.laws.kind_stays.Goals as goal

pub returns-clause-taken : goal.returns-clause-taken
returns-clause-taken c = kind-taking

pub returns-clause-fired : goal.returns-clause-fired
returns-clause-fired c = kind-firing
