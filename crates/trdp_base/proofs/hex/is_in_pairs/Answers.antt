use Rattle.std.proofs.Common.{rules}
use Rattle.trdp_base.proofs.hex.is_in_pairs.Goals as goal

pub returns-then-text-eq0 : goal.returns-then-text-eq0
returns-then-text-eq0 c = search rules
