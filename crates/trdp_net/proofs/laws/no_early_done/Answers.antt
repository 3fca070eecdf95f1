use Rattle.trdp_net.proofs.DoneLemmas.{done_due}
use Rattle.trdp_net.proofs.TypedRunLemmas.{history_typed}
use Rattle.trdp_net.proofs.laws.no_early_done.Goals as goal

pub returns : goal.returns
returns c = λ configs steps single typed.
    done_due configs steps single (history_typed configs steps typed)
