use Rattle.std.proofs.Common.{arith}
use Rattle.trdp_outbox.proofs.RowLemmas.{AllWithin-push}
use Rattle.trdp_outbox.proofs.outbox.Outbox.push.Goals as goal

pub invariant_of-self : goal.invariant_of-self
invariant_of-self c =
    rw c.push_row.ensures.items
    (AllWithin-push _ c.self.inside.rows.items _ c.self.invariant (omega arith))
