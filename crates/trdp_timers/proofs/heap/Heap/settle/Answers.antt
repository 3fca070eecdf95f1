use Rattle.std.proofs.Common.{arith}
use Rattle.trdp_timers.proofs.OrderLemmas.{leads_before}
use Rattle.trdp_timers.proofs.heap.Heap.settle.Goals as goal

pub rise-requires-clause-order : goal.rise-requires-clause-order
rise-requires-clause-order c = rw (c.deref_mut.ensures.value, c.deref-then-acts_before.ensures.value)
    (c.args.was, c.requires.order, leads_before _ _ (cc))

pub rise-requires-clause-probes : goal.rise-requires-clause-probes
rise-requires-clause-probes c = (
  63,
  omega (arith, c.args.self.now.keys.small, c.args.self.now.keys.ok),
  omega (arith, c.acts_before.ensures.counted, c.requires.probes),
)

pub sink-end-requires-clause-probes : goal.sink-end-requires-clause-probes
sink-end-requires-clause-probes c = (
  63,
  omega (arith, c.args.self.now.keys.small, c.args.self.now.keys.ok),
  omega (arith, c.acts_before.ensures.counted, c.requires.probes),
)

pub rise-requires-else-acts_before-clause-probes : goal.rise-requires-else-acts_before-clause-probes
rise-requires-else-acts_before-clause-probes c =
    let small = c.args.self.now.keys.small in (
      63,
      omega (
        arith,
        small,
        c.args.self.now.keys.ok,
        c.sink-end.ensures.place,
        c.sink-end.ensures.count,
      ),
      omega (
        arith,
        c.acts_before.ensures.counted,
        c.requires.probes,
        c.sink-end.ensures.cost 63 (omega (arith, small, c.args.self.now.keys.ok)),
      ),
    )
