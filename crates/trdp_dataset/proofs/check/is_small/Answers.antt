use Rattle.std.proofs.Common.{rules}
use Rattle.trdp_dataset.proofs.check.is_small.Goals as goal

pub returns : goal.returns
returns c = search rules
