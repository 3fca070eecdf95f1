use Rattle.std.proofs.Common.{rules}
use Rattle.trdp_marshal.specs.Lengths.{rest_after}
use Rattle.trdp_marshal.proofs.payload.skip_fixed.Goals as goal

pub returns : goal.returns
unfolding rest_after
returns c = search rules
