use Rattle.std.proofs.Common.{rules}
use Rattle.trdp_text.proofs.line_end.without_return.Goals as goal

pub returns-in-13 : goal.returns-in-13
returns-in-13 c = search rules
