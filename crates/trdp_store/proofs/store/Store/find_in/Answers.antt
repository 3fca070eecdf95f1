use Rattle.std.proofs.Common.{◌∙◌, sym, ap, Some}
use Rattle.std.proofs.lemmas.Option.{none-some}
use Rattle.trdp_store.proofs.SessionLemmas.Owners.{key_told, owner_told, nobody_told}
use Rattle.trdp_store.proofs.SessionLemmas.Owners.{owner_there, owner_key}
use Rattle.trdp_store.proofs.store.Store.find_in.Goals as goal

pub returns-in_err-key-clause-alone : goal.returns-in_err-key-clause-alone
returns-in_err-key-clause-alone c =
    rw (← c.self.view_is)
    (λ i keyed at of. absurd (none-some keyed.key (c.in_err-key.ensures
    ∙ key_told c.self.inside.table c.self.inside.sessions c.args.slot i (
      c.args.session,
      c.args.role,
    ) keyed c.self.invariant.by_session c.sound.ensures.listed at of)))

pub returns-in_err-handle-clause-alone : goal.returns-in_err-handle-clause-alone
returns-in_err-handle-clause-alone c =
    rw (← c.self.view_is)
    (λ i keyed at of.
    absurd (nobody_told c.self.inside.table c.self.inside.sessions c.args.slot i c.in_ok-key.key
    (c.args.session, c.args.role) keyed c.self.invariant.by_session c.sound.ensures.listed
    c.sound.ensures.found (sym c.in_ok-key.ensures) (sym c.in_err-handle.ensures.variant) at of))

pub returns-clause-found : goal.returns-clause-found
returns-clause-found c =
    rw (← c.self.view_is)
    (owner_there c.self.inside.table c.self.inside.sessions
    c.args.slot c.in_ok-handle.field-0-0 c.in_ok-handle.handle
    c.in_ok-key.key (c.args.session, c.args.role) c.self.invariant.by_session
    c.sound.ensures.found (sym c.in_ok-key.ensures) c.in_ok-handle.ensures.owner)

pub returns-clause-key : goal.returns-clause-key
returns-clause-key c =
    rw (← c.self.view_is)
    (owner_key c.self.inside.table c.self.inside.sessions
    c.args.slot c.in_ok-handle.field-0-0 c.in_ok-handle.handle
    c.in_ok-key.key (c.args.session, c.args.role) c.self.invariant.by_session
    c.sound.ensures.found (sym c.in_ok-key.ensures) c.in_ok-handle.ensures.owner)

pub returns-clause-alone : goal.returns-clause-alone
returns-clause-alone c =
    rw (← c.self.view_is)
    (λ i keyed at of. ap Some (owner_told c.self.inside.table c.self.inside.sessions
    c.args.slot i c.in_ok-handle.field-0-0 c.in_ok-handle.handle c.in_ok-key.key
    (c.args.session, c.args.role) keyed c.self.invariant.by_session c.sound.ensures.listed
    c.sound.ensures.found (sym c.in_ok-key.ensures) c.in_ok-handle.ensures.owner at of))
