use Rattle.std.proofs.Common.{◌∙◌, sym, ap, is_some}
use Rattle.trdp_store.proofs.SessionLemmas.Open.{part_there, looked_up}
use Rattle.trdp_store.proofs.store.Store.session.Goals as goal

pub returns-clause-key : goal.returns-clause-key
returns-clause-key c =
    rw (← c.self.view_is) (part_there c.self.inside.table c.self.inside.sessions c.args.slot
    (c.args.session, c.args.role) c.get.result c.self.invariant.by_session (sym c.get.ensures))

pub returns-clause-variant : goal.returns-clause-variant
returns-clause-variant c =
    rw (← c.self.view_is)
    (ap is_some c.get.ensures ∙ looked_up c.self.inside.table c.self.inside.sessions c.args.slot
    (c.args.session, c.args.role) c.self.invariant.by_session c.sound.ensures.listed)
