use Rattle.std.proofs.Common.{rules}
use Rattle.trdp_program.proofs.program.run_program.Goals as goal

pub returns-clause-runs : goal.returns-clause-runs
returns-clause-runs g c = search rules

pub returns-clause-faultless : goal.returns-clause-faultless
returns-clause-faultless g c = search rules
