use Rattle.trdp_md.proofs.ListenerLemmas.{hears}
use Rattle.trdp_md.proofs.laws.listener_hears_its_own.Goals as goal

pub returns : goal.returns
returns c = hears
