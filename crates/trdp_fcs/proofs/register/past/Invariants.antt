use Rattle.std.proofs.Common.{◌≡◌, length}
use Rattle.trdp_fcs.specs.Register.{past}
use Rattle.trdp_fcs.proofs.register.past.Given as goal

abbrev pub invariant-loop-eight : goal.invariant-loop-eight
invariant-loop-eight l = past l.rest l.register ≡ past l.bytes l.fn.register

abbrev pub decreases-loop-eight : goal.decreases-loop-eight
decreases-loop-eight l = length l.rest
