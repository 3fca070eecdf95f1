use Rattle.std.proofs.Common.{arith}
use Rattle.trdp_outbox.proofs.SlotOrderLemmas.Walk.{if_none, next_in_order, next_of_above, next_own}
use Rattle.trdp_outbox.proofs.SlotOrderLemmas.Walk.{none_in_order, none_left}
use Rattle.trdp_outbox.proofs.by_slot.place_of_next.Goals as goal

pub returns-then-at-len-clause-some : goal.returns-then-at-len-clause-some
returns-then-at-len-clause-some c =
    rw c.if-rising.true (next_in_order c.args.slot c.args.at c.args.outbox.now.records
    (omega (arith, c.if-at-len.true, c.len.ensures)))

pub returns-else-at-len-clause-none : goal.returns-else-at-len-clause-none
returns-else-at-len-clause-none c =
    rw c.if-rising.true (none_in_order c.args.slot c.args.at c.args.outbox.now.records
    (omega (arith, c.if-at-len.false, c.len.ensures)))

pub returns-in-Some-clause-some : goal.returns-in-Some-clause-some
returns-in-Some-clause-some c =
    rw c.if-rising.false (next_own c.args.slot c.args.at c.in-Some.own c.args.outbox.now.records
    c.in-Some.ensures.some)

pub returns-in_err-above-clause-none : goal.returns-in_err-above-clause-none
returns-in_err-above-clause-none c =
    if_none c.from_residual.result (rw c.if-rising.false (none_left c.args.slot c.args.at
    c.args.outbox.now.records c.in_default.ensures.none c.in_err-above.ensures))

pub returns-clause-some : goal.returns-clause-some
returns-clause-some c =
    rw c.if-rising.false (next_of_above c.args.slot c.in_ok-above.above c.args.at
    c.in_ok-first.first c.args.outbox.now.records c.in_default.ensures.none
    c.in_ok-above.ensures c.in_ok-first.ensures.some)
