use Rattle.std.proofs.Common.{◌≤◌, arith}
use Rattle.trdp_outbox.proofs.SlotOrderLemmas.Rising.{rising_all, rising_by_slot, rising_more}
use Rattle.trdp_outbox.proofs.SlotOrderLemmas.Rising.{slot_there}
use Rattle.trdp_outbox.proofs.by_slot.is_rising.Goals as goal

pub loop-i-preserved : goal.loop-i-preserved
loop-i-preserved c = λ rest.
    let all = c.args.outbox.now.records in
    let (r, here, is) = slot_there all c.loop-i.i c.slot_at-next.result c.slot_at-next.ensures in
    let higher : c.loop-i.slot ≤ r.slot = omega (arith, is, c.if-next-slot.false) in
    c.loop-i.invariant (rising_more all c.loop-i.i r c.loop-i.slot here higher (rw is rest))

pub returns : goal.returns
returns c = λ yes.
    let all = c.args.outbox.now.records in
    rising_by_slot 0 all (c.loop-i.invariant
    (rising_all all c.loop-i.i _ c.loop-i.slot c.loop-i-test.false c.len-i-end.ensures))
