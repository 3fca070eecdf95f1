use Rattle.trdp_daemon.proofs.LossLemmas.{turns_kept}
use Rattle.trdp_daemon.proofs.laws.nothing_missed.Goals as goal

pub returns : goal.returns
returns c = λ service turns none. turns_kept service turns none
