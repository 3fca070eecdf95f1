use Rattle.std.proofs.Common.{rules}
use Rattle.trdp_text.proofs.names.line_fault_name.Goals as goal

pub returns-in-Count : goal.returns-in-Count
returns-in-Count c = search rules
