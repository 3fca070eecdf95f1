use Rattle.std.proofs.Common.{rules}
use Rattle.trdp_text.proofs.config_names.config_fault_name.Goals as goal

pub returns-in-BadId-clause-name : goal.returns-in-BadId-clause-name
returns-in-BadId-clause-name c = search rules
