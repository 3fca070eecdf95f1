use Rattle.trdp_store.proofs.DueLemmas.Soonest.{none_is_next, first_is_next}
use Rattle.trdp_store.proofs.store.Store.soonest.Goals as goal

pub returns-in_err-order : goal.returns-in_err-order
returns-in_err-order c =
    rw (← c.self.view_is) (rw c.from_residual.ensures
    (none_is_next c.self.inside.table c.self.inside.schedule
    c.self.invariant.by_moment c.sound.ensures.sound (record {
      found = c.sound.ensures.found;
      listed = c.sound.ensures.listed;
    }) c.soonest.result c.soonest.ensures.first c.in_err-order.was))

pub returns : goal.returns
returns c =
    rw (← c.self.view_is)
    (first_is_next c.self.inside.table c.self.inside.schedule
    c.self.invariant.by_moment c.sound.ensures.sound (record {
      found = c.sound.ensures.found;
      listed = c.sound.ensures.listed;
    }) c.soonest.result c.soonest.ensures.first c.in_ok-order.order c.in_ok-order.was)
