use Rattle.trdp_net.proofs.RunningLemmas.{step_kept}
use Rattle.trdp_net.proofs.laws.faults_change_nothing.Goals as goal

pub returns : goal.returns
returns c = step_kept
