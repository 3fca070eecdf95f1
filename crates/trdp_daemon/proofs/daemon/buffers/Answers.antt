use Rattle.std.proofs.Common.{rules}
use Rattle.trdp_daemon.proofs.daemon.buffers.Goals as goal

pub returns-clause-room : goal.returns-clause-room
returns-clause-room c = search rules
