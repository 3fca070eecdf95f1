use Rattle.std.proofs.Common.{rules}
use Rattle.trdp_dataset.proofs.key.Key.fault.Goals as goal

pub returns-in-None : goal.returns-in-None
returns-in-None c = search rules

pub returns-in-None-2 : goal.returns-in-None-2
returns-in-None-2 c = search rules
