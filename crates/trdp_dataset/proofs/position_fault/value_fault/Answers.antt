use Rattle.std.proofs.Common.{rules}
use Rattle.trdp_dataset.proofs.position_fault.value_fault.Goals as goal

pub returns-in-Numbers : goal.returns-in-Numbers
returns-in-Numbers c = search rules
