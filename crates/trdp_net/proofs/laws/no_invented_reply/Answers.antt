use Rattle.trdp_net.proofs.PromiseLemmas.{replies_made}
use Rattle.trdp_net.proofs.HeardRunLemmas.{all_distinct}
use Rattle.trdp_net.proofs.TypedRunLemmas.{history_typed}
use Rattle.trdp_net.proofs.laws.no_invented_reply.Goals as goal

pub returns-clause-made : goal.returns-clause-made
returns-clause-made c = λ configs steps single typed fresh.
    replies_made configs steps single (history_typed configs steps typed) fresh

pub returns-clause-distinct : goal.returns-clause-distinct
returns-clause-distinct c = all_distinct
