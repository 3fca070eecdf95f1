use Rattle.std.proofs.Common.{drop}
use Rattle.trdp_outbox.proofs.SlotOrderLemmas.Rising.{IsRising}
use Rattle.trdp_outbox.proofs.by_slot.is_rising.Given as goal

-- all rise where the rest does
abbrev pub invariant-loop-i : goal.invariant-loop-i
invariant-loop-i l =
    IsRising l.slot (drop l.i l.outbox.records) → IsRising 0 l.outbox.records
