use Rattle.std.proofs.Common.{◌≡◌, drop}
use Rattle.trdp_fcs.specs.Register.{past}
use Rattle.trdp_fcs.proofs.register.past_few.Given as goal

abbrev pub invariant-loop-byte : goal.invariant-loop-byte
invariant-loop-byte l = past (drop l.byte-index l.rest) l.register ≡ past l.bytes l.fn.register
