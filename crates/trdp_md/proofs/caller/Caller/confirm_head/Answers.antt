use Rattle.std.proofs.Common.{rules}
use Rattle.trdp_md.specs.Callers.{confirm_of}
use Rattle.trdp_md.proofs.caller.Caller.confirm_head.Goals as goal

pub returns : goal.returns
unfolding confirm_of
returns c = search rules
