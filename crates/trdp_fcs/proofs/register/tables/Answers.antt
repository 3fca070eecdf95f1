use Rattle.std.proofs.Common.{refl}
use Rattle.trdp_fcs.specs.Register.{past_zeros}
use Rattle.trdp_fcs.proofs.register.tables.Goals as goal

pub returns : goal.returns
unfolding past_zeros
returns c = refl
