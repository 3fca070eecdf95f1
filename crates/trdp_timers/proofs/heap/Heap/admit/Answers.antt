use Rattle.std.proofs.Common.{◌∙◌, sym, arith}
use Rattle.std.proofs.Common.{vec_capacity}
use Rattle.trdp_timers.proofs.KeyLemmas.{new_fits}
use Rattle.trdp_timers.proofs.heap.Heap.admit.Goals as goal

pub returns-clause-order : goal.returns-clause-order
returns-clause-order c =
    new_fits c.args.orders.now.items c.args.self.now.keys.items
    c.args.self.now.places.items _ (vec_capacity c.args.self.now.keys) c.args.key _ c.args.was
    (sym c.is_some.ensures ∙ c.if-is_some.false) c.requires.key
    c.requires.kept c.push_reserved.ensures.items (omega arith)
