use Rattle.std.proofs.Common.{sym}
use Rattle.trdp_store.specs.Acting.{slot_at}
use Rattle.trdp_store.proofs.SessionLemmas.Open.{in_none}
use Rattle.trdp_store.proofs.sessions.has_session.Goals as goal

pub returns-in_default : goal.returns-in_default
returns-in_default c =
    sym (in_none c.args.kind c.args.session (slot_at c.args.s c.args.store.now).objects
    c.in_default.not-Caller c.in_default.not-Replier)
