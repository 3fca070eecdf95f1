use Rattle.std.proofs.Common.{◌==◌, not}
use Rattle.trdp_index.specs.ComRows.{com_row_rank, is_same_com}
use Rattle.trdp_index.proofs.RowLemmas.{filter-swap}
use Rattle.trdp_index.proofs.SlotLemmas.{IsKept-without_slot}
use Rattle.trdp_index.proofs.com_index.ComIndex.remove_slot.Goals as goal

pub invariant_of-self : goal.invariant_of-self
invariant_of-self c =
    rw (c.take_out.ensures.items, c.take_out.ensures.capacity)
    (IsKept-without_slot com_row_rank _ c.self.inside.rows.items
    c.self.inside.room _ c.self.invariant)

pub returns-clause-runs : goal.returns-clause-runs
returns-clause-runs c = λ com_id.
    rw (c.take_out.ensures.items, ← c.self.view_is)
    (filter-swap (λ row. is_same_com row.com_id com_id)
    (λ row. not (row.slot == c.args.slot)) c.self.inside.rows.items)
