use Rattle.std.proofs.Common.{rules}
use Rattle.trdp_table.proofs.slot.room_of.Goals as goal

pub returns-clause-room : goal.returns-clause-room
returns-clause-room c = search rules
