use Rattle.trdp_md.proofs.AnswerLemmas.{settles_confirming}
use Rattle.trdp_md.proofs.laws.caller_confirms_one_place.Goals as goal

pub returns : goal.returns
returns c = settles_confirming
