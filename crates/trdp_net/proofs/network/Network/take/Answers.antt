use Rattle.std.proofs.Common.{rules}
use Rattle.trdp_net.proofs.network.Network.take.Goals as goal

pub returns-clause-follows : goal.returns-clause-follows
returns-clause-follows c = search rules

pub returns-clause-fault : goal.returns-clause-fault
returns-clause-fault c = search rules
