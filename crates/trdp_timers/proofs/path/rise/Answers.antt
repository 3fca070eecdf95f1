use Rattle.std.proofs.Common.{◌-◌, ◌/◌, ◌∙◌, length, refl, sym, arith}
use Rattle.trdp_timers.specs.Heap.{order_at}
use Rattle.trdp_timers.proofs.StepLemmas.{settled, risen}
use Rattle.trdp_timers.proofs.OrderLemmas.{leads_trans, leads_before}
use Rattle.trdp_timers.proofs.PathLemmas.{count_up, cost_step, cost_end}
use Rattle.trdp_timers.proofs.path.rise.Goals as goal

pub returns-then-not-acts_before-clause-order : goal.returns-then-not-acts_before-clause-order
returns-then-not-acts_before-clause-order c =
    let can = c.loop-place.invariant.order in
    settled (length c.loop-place.keys)
    _ c.loop-place.place can.0 can.1 (λ h. cc)
    (λ i h k e. leads_trans _ can.0 _ can.2 (can.1.below i h k e))

pub returns-clause-order : goal.returns-clause-order
returns-clause-order c =
    let can = c.loop-place.invariant.order in
    settled (length c.loop-place.keys) _ c.loop-place.place can.0 can.1
    (λ h. absurd (omega arith)) (λ i h k e. leads_trans _ can.0 _ can.2 (can.1.below i h k e))

pub returns-then-not-acts_before-clause-cost : goal.returns-then-not-acts_before-clause-cost
returns-then-not-acts_before-clause-cost c = λ b deep.
    cost_end _ c.args.probes.now c.acts_before.new.probes b
    (cost_step c.loop-place.place c.loop-place.probes c.args.probes.now c.acts_before.new.probes
    b (omega arith) c.acts_before.ensures.counted (c.loop-place.invariant.cost b deep))

pub loop-place-preserved : goal.loop-place-preserved
loop-place-preserved c =
    let os = c.args.orders.now in
    let l = c.loop-place in
    let keys = l.keys in
    let to = c.exchange.new.keys in
    record {
      within = omega arith;
      placed = c.exchange.ensures.placed os l.invariant.placed;
      own = l.invariant.own ∙ sym (c.exchange.ensures.swapped os).second;
      order = risen (length keys) (length to) (order_at os keys) (order_at os to)
          l.place ((l.place - 1) / 2) c.exchange.ensures.count refl (omega arith) l.invariant.within
          (c.exchange.ensures.swapped os) (leads_before _
          _ (cc)) l.invariant.order;
      probes = count_up l.place l.probes c.acts_before.new.probes
          (omega arith) c.acts_before.ensures.counted l.invariant.probes;
      count = omega arith;
      places = omega arith;
      least = omega arith;
      cost = λ b deep. cost_step l.place l.probes c.args.probes.now c.acts_before.new.probes
          b (omega arith) c.acts_before.ensures.counted (l.invariant.cost b deep);
    }
