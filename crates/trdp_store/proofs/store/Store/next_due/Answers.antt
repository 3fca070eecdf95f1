use Rattle.std.proofs.Common.{Some}
use Rattle.trdp_store.proofs.StoreLemmas.Keys.{KeysTell}
use Rattle.trdp_store.proofs.DueLemmas.Next.{none_comes, first_comes, first_key}
use Rattle.trdp_store.proofs.store.Store.next_due.Goals as goal

pub returns-in_err-key-clause-next : goal.returns-in_err-key-clause-next
returns-in_err-key-clause-next c =
    let tell : KeysTell c.self.inside.table =
    record { found = c.sound.ensures.found; listed = c.sound.ensures.listed } in
    rw (← c.self.view_is, c.from_residual.ensures)
    (none_comes c.self.inside.table c.self.inside.schedule c.args.t
    c.self.invariant.by_moment c.sound.ensures.sound tell c.in_err-key.ensures.first)

pub returns-clause-next : goal.returns-clause-next
returns-clause-next c =
    let tell : KeysTell c.self.inside.table =
    record { found = c.sound.ensures.found; listed = c.sound.ensures.listed } in
    rw (← c.self.view_is)
    (first_comes c.self.inside.table c.self.inside.schedule c.args.t
    c.self.invariant.by_moment c.sound.ensures.sound tell c.in_ok-key.key
    c.in_ok-key.order (Some c.in_ok-key.key) c.in_ok-key.ensures.first)

pub returns-clause-key : goal.returns-clause-key
returns-clause-key c =
    let tell : KeysTell c.self.inside.table =
    record { found = c.sound.ensures.found; listed = c.sound.ensures.listed } in
    rw (← c.self.view_is)
    (first_key c.self.inside.table c.self.inside.schedule c.args.t
    c.self.invariant.by_moment c.sound.ensures.sound tell c.in_ok-key.key
    c.in_ok-key.order c.in_ok-key.ensures.first)
