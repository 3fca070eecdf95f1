use Rattle.std.proofs.Common.{arith}
use Rattle.std.proofs.lemmas.Grind.{common_steps}
use Rattle.trdp_dataset.proofs.fixed.all_fixed.Goals as goal

pub loop-element-preserved : goal.loop-element-preserved
loop-element-preserved c = grind (arith, common_steps)
