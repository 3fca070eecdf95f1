use Rattle.std.proofs.Common.{rules}
use Rattle.trdp_md.proofs.caller.Caller.new.Goals as goal

pub returns : goal.returns
returns c = search rules
