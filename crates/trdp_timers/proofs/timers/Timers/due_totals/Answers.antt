use Rattle.std.proofs.Common.{◌<◌, ◌≤◌, ◌^◌, ◌∙◌, length, sym, subst, arith}
use Rattle.trdp_timers.specs.Contents.{TimersState}
use Rattle.trdp_timers.proofs.DueLemmas.{sum_sizes, count_due}
use Rattle.trdp_timers.proofs.TotalLemmas.{sizes_weigh, ones_weigh}
use Rattle.trdp_timers.proofs.timers.Timers.due_totals.Goals as goal

pub due_below-requires-clause-first_fits : goal.due_below-requires-clause-first_fits
due_below-requires-clause-first_fits c =
    let os = c.self.inside.orders.items in
    let ss = c.args.first.now in
    let heap = c.self.inside.heap in
    let deep : length heap.keys.items < 2 ^ 63 = omega (arith, heap.keys.small, heap.keys.ok) in
    let long : length os ≤ length ss = subst (λ (s : TimersState). length s.orders ≤ length ss)
    (sym c.self.view_is) c.requires.first in
    let all = sizes_weigh c.args.t os ss heap.keys.items
    heap.places.items c.self.invariant.placed long 63 deep in
    (63, deep, omega (arith, all, sum_sizes c.args.t os ss, c.requires.first_fits))

pub due_below-requires-clause-second_fits : goal.due_below-requires-clause-second_fits
due_below-requires-clause-second_fits c =
    let os = c.self.inside.orders.items in
    let ss = c.args.second.now in
    let heap = c.self.inside.heap in
    let deep : length heap.keys.items < 2 ^ 63 = omega (arith, heap.keys.small, heap.keys.ok) in
    let long : length os ≤ length ss = subst (λ (s : TimersState). length s.orders ≤ length ss)
    (sym c.self.view_is) c.requires.second in
    let all = sizes_weigh c.args.t os ss heap.keys.items
    heap.places.items c.self.invariant.placed long 63 deep in
    (63, deep, omega (arith, all, sum_sizes c.args.t os ss, c.requires.second_fits))

pub due_below-requires-clause-probes : goal.due_below-requires-clause-probes
due_below-requires-clause-probes c =
    let os = c.self.inside.orders.items in
    let heap = c.self.inside.heap in
    let deep : length heap.keys.items < 2 ^ 63 = omega (arith, heap.keys.small, heap.keys.ok) in
    let ones =
    ones_weigh c.args.t os heap.keys.items heap.places.items c.self.invariant.placed 63 deep in
    (63, deep, omega (arith, ones, count_due c.args.t os, c.self.invariant.count))

pub returns-clause-first : goal.returns-clause-first
returns-clause-first c =
    let os = c.self.inside.orders.items in
    let ss = c.args.first.now in
    let heap = c.self.inside.heap in
    let deep : length heap.keys.items < 2 ^ 63 = omega (arith, heap.keys.small, heap.keys.ok) in
    let long : length os ≤ length ss = subst (λ (s : TimersState). length s.orders ≤ length ss)
    (sym c.self.view_is) c.requires.first in
    rw (← c.self.view_is) (c.due_below.ensures.first_total 63 deep ∙ sizes_weigh c.args.t
    os ss heap.keys.items heap.places.items c.self.invariant.placed long 63 deep)

pub returns-clause-second : goal.returns-clause-second
returns-clause-second c =
    let os = c.self.inside.orders.items in
    let ss = c.args.second.now in
    let heap = c.self.inside.heap in
    let deep : length heap.keys.items < 2 ^ 63 = omega (arith, heap.keys.small, heap.keys.ok) in
    let long : length os ≤ length ss = subst (λ (s : TimersState). length s.orders ≤ length ss)
    (sym c.self.view_is) c.requires.second in
    rw (← c.self.view_is) (c.due_below.ensures.second_total 63 deep ∙ sizes_weigh c.args.t
    os ss heap.keys.items heap.places.items c.self.invariant.placed long 63 deep)

pub returns-clause-cost : goal.returns-clause-cost
returns-clause-cost c =
    let os = c.self.inside.orders.items in
    let heap = c.self.inside.heap in
    let deep : length heap.keys.items < 2 ^ 63 = omega (arith, heap.keys.small, heap.keys.ok) in
    let ones =
    ones_weigh c.args.t os heap.keys.items heap.places.items c.self.invariant.placed 63 deep in
    let cost = c.due_below.ensures.cost 63 deep in
    rw (← c.self.view_is) (omega (arith, cost, ones))

pub returns-clause-least : goal.returns-clause-least
returns-clause-least c =
    let os = c.self.inside.orders.items in
    let heap = c.self.inside.heap in
    let deep : length heap.keys.items < 2 ^ 63 = omega (arith, heap.keys.small, heap.keys.ok) in
    let ones =
    ones_weigh c.args.t os heap.keys.items heap.places.items c.self.invariant.placed 63 deep in
    let least = c.due_below.ensures.least 63 deep in
    rw (← c.self.view_is) (omega (arith, least, ones))
