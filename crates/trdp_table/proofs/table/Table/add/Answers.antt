use Rattle.std.proofs.Common.{rules}
use Rattle.trdp_table.proofs.table.Table.add.Goals as goal

pub returns-in-Some-clause-kept : goal.returns-in-Some-clause-kept
returns-in-Some-clause-kept c = search rules
