use Rattle.std.proofs.Common.{rules}
use Rattle.trdp_base.proofs.uri.UriPartialEq.eq.Goals as goal

pub returns : goal.returns
returns c = search rules
