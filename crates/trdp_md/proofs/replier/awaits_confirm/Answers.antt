use Rattle.std.proofs.Common.{rules}
use Rattle.trdp_md.specs.Repliers.{awaits_confirm}
use Rattle.trdp_md.proofs.replier.awaits_confirm.Goals as goal

pub returns-in-Asked : goal.returns-in-Asked
unfolding awaits_confirm
returns-in-Asked c = search rules
