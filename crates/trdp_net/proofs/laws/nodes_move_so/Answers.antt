use Rattle.trdp_net.proofs.TieLemmas.{moves_so}
use Rattle.trdp_net.proofs.laws.nodes_move_so.Goals as goal

pub returns : goal.returns
returns c = moves_so
