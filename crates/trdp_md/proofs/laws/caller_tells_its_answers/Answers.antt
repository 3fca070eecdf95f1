use Rattle.trdp_md.proofs.CallerLemmas.{tells, adds}
use Rattle.trdp_md.proofs.laws.caller_tells_its_answers.Goals as goal

pub returns-clause-told : goal.returns-clause-told
returns-clause-told c = tells

pub returns-clause-added : goal.returns-clause-added
returns-clause-added c = adds
