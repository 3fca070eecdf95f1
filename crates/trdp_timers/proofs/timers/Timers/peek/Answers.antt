use Rattle.std.proofs.Common.{◌<◌, length, arith}
use Rattle.std.proofs.Common.{vec_capacity}
use Rattle.std.proofs.lemmas.List.{get_or_read}
use Rattle.std.proofs.lemmas.Bool.Decides.{nat_tests}
use Rattle.trdp_timers.proofs.KeyLemmas.{first_is}
use Rattle.trdp_timers.proofs.timers.Timers.peek.Goals as goal

pub returns : goal.returns
returns c =
    let t = c.self.inside in
    let some : 0 < length t.heap.keys.items = grind (arith, nat_tests) in
    rw (← c.self.view_is)
    (first_is t.orders.items t.heap.keys.items t.heap.places.items
    (vec_capacity t.heap.keys) c.index-key.result.now c.in_ok-order.order c.self.invariant some
    (get_or_read t.heap.keys.items 0 _ some c.index-key.ensures 0)
    c.index.result.now c.index.ensures c.in_ok-order.was)
