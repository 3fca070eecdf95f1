use Rattle.std.proofs.Common.{◌<◌, ◌≤◌, ◌+◌, ◌*◌, ◌^◌, ℕ, length, subst, sym, arith}
use Rattle.trdp_timers.specs.Heap.{order_at}
use Rattle.trdp_timers.proofs.StepLemmas.{sunk, can_rise_from_end}
use Rattle.trdp_timers.proofs.PathLemmas.{count_down, cost_step_down, cost_end_down}
use Rattle.trdp_timers.proofs.path.sink.Goals as goal

pub returns-clause-order : goal.returns-clause-order
returns-clause-order c =
    let l = c.loop-place in
    let keys = l.keys in
    can_rise_from_end (length keys) (order_at c.args.orders.now keys) l.place
    (omega arith) l.invariant.order

pub returns-clause-cost : goal.returns-clause-cost
returns-clause-cost c = λ b deep.
    let l = c.loop-place in
    cost_end_down (length l.keys) l.place c.args.probes.now l.probes b
    (l.invariant.cost b deep)

pub loop-place-preserved : goal.loop-place-preserved
loop-place-preserved c =
    let os = c.args.orders.now in
    let l = c.loop-place in
    let keys = l.keys in
    let to = c.exchange.new.keys in
    let below = c.first_below-below.result in
    let now = c.first_below-below.new.probes in
    let same = c.exchange.ensures.count in
    record {
      within = omega arith;
      placed = c.exchange.ensures.placed os l.invariant.placed;
      order = sunk (length keys) (length to) (order_at os keys) (order_at os to) l.place below
          same (omega arith) c.first_below-below.ensures.within (omega arith)
          (c.exchange.ensures.swapped os) c.first_below-below.ensures.first l.invariant.order;
      probes = count_down (length keys) (length to) l.place below l.probes
          now same c.first_below-below.ensures.below
          l.invariant.within (omega arith) (omega arith) l.invariant.probes;
      count = omega arith;
      places = omega arith;
      least = omega arith;
      cost = λ b deep. subst (λ (n : ℕ). (j : ℕ) × (n < (below + 1) * 2 ^ j)
          × (now + j ≤ c.args.probes.now + b)) (sym same)
          (cost_step_down (length keys) l.place below l.probes c.args.probes.now
          now b c.first_below-below.ensures.below (omega arith) (omega arith)
          (l.invariant.cost b deep));
    }
