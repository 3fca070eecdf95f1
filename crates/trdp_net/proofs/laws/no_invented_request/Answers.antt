use Rattle.trdp_net.proofs.PromiseLemmas.{notices_made, requests_made}
use Rattle.trdp_net.proofs.TypedRunLemmas.{history_typed}
use Rattle.trdp_net.proofs.laws.no_invented_request.Goals as goal

pub returns-clause-notified : goal.returns-clause-notified
returns-clause-notified c = λ configs steps single typed.
    notices_made configs steps single (history_typed configs steps typed)

pub returns-clause-asked : goal.returns-clause-asked
returns-clause-asked c = λ configs steps single typed.
    requests_made configs steps single (history_typed configs steps typed)
