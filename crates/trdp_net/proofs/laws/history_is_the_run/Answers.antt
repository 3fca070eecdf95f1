use Rattle.trdp_net.proofs.TieLemmas.{history_is_run, nodes_stay, one_node}
use Rattle.trdp_net.proofs.laws.history_is_the_run.Goals as goal

pub returns-clause-steps : goal.returns-clause-steps
returns-clause-steps c = history_is_run

pub returns-clause-places : goal.returns-clause-places
returns-clause-places c = nodes_stay

pub returns-clause-one_node : goal.returns-clause-one_node
returns-clause-one_node c = one_node
