use Rattle.trdp_daemon.proofs.EndLemmas.{ended_silent}
use Rattle.trdp_daemon.proofs.laws.an_end_tells_nobody.Goals as goal

pub returns : goal.returns
returns c = λ service port loss. ended_silent service port loss
