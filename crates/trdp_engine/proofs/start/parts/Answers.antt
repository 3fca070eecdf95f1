use Rattle.std.proofs.Common.{◌∙◌, arith}
use Rattle.trdp_engine.proofs.ActLemmas.OneSlot.{opened_slots}
use Rattle.trdp_engine.proofs.start.parts.Goals as goal

pub returns-clause-slots : goal.returns-clause-slots
returns-clause-slots c = opened_slots c.in_ok-store.store _ c.args.config.now.slots
    c.in_ok-store.ensures (c.deref.ensures.value ∙ c.in_ok-quotas.ensures.quotas)

pub returns-clause-capacity : goal.returns-clause-capacity
returns-clause-capacity c = omega (arith, c.in_ok-noted.ensures.capacity, c.room.ensures.room)
