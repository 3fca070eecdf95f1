use Rattle.std.proofs.Common.{rules}
use Rattle.trdp_dataset.proofs.position_fault.count_fault.Goals as goal

pub returns-else-count-from : goal.returns-else-count-from
returns-else-count-from c = search rules
