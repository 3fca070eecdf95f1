use Rattle.trdp_md.proofs.AnswerLemmas.{apart_taking, apart_confirming}
use Rattle.trdp_md.proofs.laws.caller_answers_stay_apart.Goals as goal

pub returns-clause-taken : goal.returns-clause-taken
returns-clause-taken c = apart_taking

pub returns-clause-confirmed : goal.returns-clause-confirmed
returns-clause-confirmed c = apart_confirming
