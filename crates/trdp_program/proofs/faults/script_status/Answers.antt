use Rattle.std.proofs.Common.{rules}
use Rattle.trdp_program.proofs.faults.script_status.Goals as goal

pub returns-in-Err-Line : goal.returns-in-Err-Line
returns-in-Err-Line c = search rules
