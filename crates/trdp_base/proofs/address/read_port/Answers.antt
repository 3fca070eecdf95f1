use Rattle.std.proofs.Common.{rules}
use Rattle.trdp_base.proofs.address.read_port.Goals as goal

pub returns-in_err-port-clause-found : goal.returns-in_err-port-clause-found
returns-in_err-port-clause-found c = search rules

pub returns-clause-found : goal.returns-clause-found
returns-clause-found c = search rules
