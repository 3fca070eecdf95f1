use Rattle.std.proofs.Common.{rules}
use Rattle.trdp_md.specs.Repliers.{is_for_replier}
use Rattle.trdp_md.proofs.replier.Replier.is_for.Goals as goal

pub returns-then-eq-2 : goal.returns-then-eq-2
unfolding is_for_replier
returns-then-eq-2 c = search rules
