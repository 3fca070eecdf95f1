use Rattle.trdp_timers.proofs.FewerLemmas.{one_fewer}
use Rattle.trdp_timers.proofs.laws.one_fewer_is_due.Goals as goal

pub returns : goal.returns
returns c = one_fewer
