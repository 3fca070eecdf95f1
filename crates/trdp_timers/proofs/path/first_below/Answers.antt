use Rattle.std.proofs.Common.{◌<◌, ◌+◌, ◌*◌, length, arith}
use Rattle.trdp_timers.specs.Heap.{order_at}
use Rattle.trdp_timers.proofs.OrderLemmas.{leads_refl, leads_before}
use Rattle.trdp_timers.proofs.StepLemmas.{of_two}
use Rattle.trdp_timers.proofs.path.first_below.Goals as goal

pub returns-then-right-keys-clause-first : goal.returns-then-right-keys-clause-first
returns-then-right-keys-clause-first c =
    let p = c.args.place in
    of_two (length c.args.keys.now)
    (order_at c.args.orders.now c.args.keys.now) p (2 * p + 1)
    (λ _. leads_refl _) (λ (h : 2 * p + 1 + 1 < length c.args.keys.now).
    absurd (omega arith))

pub returns-then-acts_before-clause-first : goal.returns-then-acts_before-clause-first
returns-then-acts_before-clause-first c =
    let p = c.args.place in
    of_two (length c.args.keys.now)
    (order_at c.args.orders.now c.args.keys.now) p (2 * p + 1 + 1)
    (λ _. leads_before _ _ (cc)) (λ _. leads_refl _)

pub returns-clause-first : goal.returns-clause-first
returns-clause-first c =
    let p = c.args.place in
    of_two (length c.args.keys.now)
    (order_at c.args.orders.now c.args.keys.now) p (2 * p + 1)
    (λ _. leads_refl _) (λ _. cc)
