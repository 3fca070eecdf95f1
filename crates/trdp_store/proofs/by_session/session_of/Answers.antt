use Rattle.std.proofs.Common.{rules}
use Rattle.trdp_store.proofs.by_session.session_of.Goals as goal

pub returns-in-Caller : goal.returns-in-Caller
returns-in-Caller c = search rules
