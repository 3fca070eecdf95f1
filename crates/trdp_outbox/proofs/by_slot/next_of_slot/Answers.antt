use Rattle.std.proofs.Common.{◌∙◌, sym}
use Rattle.trdp_outbox.proofs.SlotOrderLemmas.Rising.{slot_there}
use Rattle.trdp_outbox.proofs.SlotOrderLemmas.Walk.{own_further, own_there}
use Rattle.trdp_outbox.proofs.by_slot.next_of_slot.Goals as goal

pub returns-then-slot_at-slot-clause-some : goal.returns-then-slot_at-slot-clause-some
returns-then-slot_at-slot-clause-some c =
    let all = c.args.outbox.now.records in
    let (r, here, is) = slot_there all c.loop-i.i c.slot_at.result c.slot_at.ensures in
    record {
      r = r;
      here = here;
      first = c.loop-i.invariant
          ∙ own_there c.args.slot c.loop-i.i all r here (is ∙ c.if-slot_at-slot.true);
    }

pub loop-i-preserved : goal.loop-i-preserved
loop-i-preserved c =
    let all = c.args.outbox.now.records in
    let (r, here, is) = slot_there all c.loop-i.i c.slot_at.result c.slot_at.ensures in
    c.loop-i.invariant
    ∙ own_further c.args.slot c.loop-i.i all r here
    (λ same. c.if-slot_at-slot.false (sym is ∙ same))
