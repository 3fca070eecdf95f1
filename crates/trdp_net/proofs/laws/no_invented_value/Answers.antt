use Rattle.trdp_net.proofs.PromiseLemmas.{values_put}
use Rattle.trdp_net.proofs.TypedRunLemmas.{history_typed}
use Rattle.trdp_net.proofs.laws.no_invented_value.Goals as goal

pub returns : goal.returns
returns c = λ configs steps single typed.
    values_put configs steps single (history_typed configs steps typed)
