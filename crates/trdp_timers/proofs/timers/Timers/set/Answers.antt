use Rattle.std.proofs.Common.{List, Option, Some, sym, subst, rules}
use Rattle.std.proofs.Common.{vec_capacity}
use Rattle.trdp_timers.specs.declared.order.Order.{Order}
use Rattle.trdp_timers.specs.Heap.{IsKept}
use Rattle.trdp_timers.proofs.KeyLemmas.{undone}
use Rattle.trdp_timers.proofs.timers.Timers.set.Goals as goal

pub admit-place-requires-clause-kept : goal.admit-place-requires-clause-kept
admit-place-requires-clause-kept c =
    let t = c.self.inside in
    subst (λ (l : List (Option Order)).
    IsKept l t.heap.keys.items t.heap.places.items (vec_capacity t.heap.keys))
    (sym (undone t.orders.items c.args.key (Some c.args.order)
    c.index-was.result.now c.index-was.ensures)) c.self.invariant

pub returns-clause-orders : goal.returns-clause-orders
returns-clause-orders c = search rules
