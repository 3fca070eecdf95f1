use Rattle.trdp_outbox.proofs.SlotOrderLemmas.Walk.{all_left}
use Rattle.trdp_outbox.proofs.by_slot.BySlot.new.Goals as goal

pub returns : goal.returns
returns c = all_left c.is_rising.result c.args.outbox.now.records c.is_rising.ensures
