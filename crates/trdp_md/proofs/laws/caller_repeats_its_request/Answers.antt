use Rattle.trdp_md.proofs.RepeatLemmas.{unanswered, fewer}
use Rattle.trdp_md.proofs.laws.caller_repeats_its_request.Goals as goal

pub returns-clause-unanswered : goal.returns-clause-unanswered
returns-clause-unanswered c = unanswered

pub returns-clause-fewer : goal.returns-clause-fewer
returns-clause-fewer c = fewer
