use Rattle.trdp_model.proofs.InertLemmas.{malformed}
use Rattle.trdp_model.proofs.laws.malformed_datagrams_are_inert.Goals as goal

pub returns : goal.returns
returns c = malformed
