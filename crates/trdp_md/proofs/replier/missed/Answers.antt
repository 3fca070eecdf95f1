use Rattle.std.proofs.Common.{rules}
use Rattle.trdp_md.specs.Repliers.{missed}
use Rattle.trdp_md.proofs.replier.missed.Goals as goal

pub returns-in-Asked : goal.returns-in-Asked
unfolding missed
returns-in-Asked c = search rules
