use Rattle.trdp_md.proofs.ReplierLemmas.{confirmed}
use Rattle.trdp_md.proofs.laws.replier_is_confirmed_by_its_peer.Goals as goal

pub returns : goal.returns
returns c = confirmed
