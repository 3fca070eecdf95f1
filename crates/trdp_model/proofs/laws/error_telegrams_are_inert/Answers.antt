use Rattle.trdp_model.proofs.InertLemmas.{error}
use Rattle.trdp_model.proofs.laws.error_telegrams_are_inert.Goals as goal

pub returns : goal.returns
returns c = error
