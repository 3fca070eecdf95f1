use Rattle.std.proofs.Common.{◌≡◌, ◌∙◌, Some, sym, ap}
use Rattle.trdp_timers.specs.Heap.{order_at}
use Rattle.trdp_timers.specs.Orders.{is_due_by}
use Rattle.trdp_timers.proofs.DueLemmas.{weight_size}
use Rattle.trdp_timers.proofs.heap.Heap.due_at.Goals as goal

pub returns-clause-first : goal.returns-clause-first
returns-clause-first c =
    let own : Some c.order_of.result ≡ order_at c.args.orders.now.items
    c.args.self.now.keys.items c.args.place = cc in
    weight_size c.args.t c.args.orders.now.items c.args.sizes.0.now c.args.self.now.keys.items
    c.args.place c.index-key.result.now c.requires.first c.requires.place c.index-key.ensures
    (ap (is_due_by c.args.t) (sym own)
    ∙ sym c.is_due.ensures.answer ∙ c.if-not-is_due.false)

pub returns-clause-second : goal.returns-clause-second
returns-clause-second c =
    let own : Some c.order_of.result ≡ order_at c.args.orders.now.items
    c.args.self.now.keys.items c.args.place = cc in
    weight_size c.args.t c.args.orders.now.items c.args.sizes.1.now c.args.self.now.keys.items
    c.args.place c.index-key.result.now c.requires.second c.requires.place c.index-key.ensures
    (ap (is_due_by c.args.t) (sym own)
    ∙ sym c.is_due.ensures.answer ∙ c.if-not-is_due.false)
