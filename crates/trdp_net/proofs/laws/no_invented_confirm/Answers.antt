use Rattle.trdp_net.proofs.PromiseLemmas.{confirms_made}
use Rattle.trdp_net.proofs.TypedRunLemmas.{history_typed}
use Rattle.trdp_net.proofs.laws.no_invented_confirm.Goals as goal

pub returns : goal.returns
returns c = λ configs steps single typed.
    confirms_made configs steps single (history_typed configs steps typed)
