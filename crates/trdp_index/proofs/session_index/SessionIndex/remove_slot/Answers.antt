use Rattle.std.proofs.Common.{◌==◌, None, ◌∙◌, ap}
use Rattle.std.specs.Prelude.{option_map}
use Rattle.trdp_index.specs.declared.session_row.SessionRow.{SessionRow}
use Rattle.trdp_index.specs.Rows.{row_of}
use Rattle.trdp_index.specs.SessionRows.{session_rank, session_row_rank}
use Rattle.trdp_index.proofs.RowLemmas.{option_map-if}
use Rattle.trdp_index.proofs.SlotLemmas.{row_of-without_slot, IsKept-without_slot}
use Rattle.trdp_index.proofs.session_index.SessionIndex.remove_slot.Goals as goal

pub invariant_of-self : goal.invariant_of-self
invariant_of-self c =
    rw (c.take_out.ensures.items, c.take_out.ensures.capacity)
    (IsKept-without_slot session_row_rank _ c.self.inside.rows.items
    c.self.inside.room _ c.self.invariant)

pub returns-clause-keys : goal.returns-clause-keys
returns-clause-keys c = λ other t its.
    let rows = c.self.inside.rows.items in
    let rank = session_rank other t its in
    let key_of = λ (r : SessionRow). r.key in
    rw (c.take_out.ensures.items, ← c.self.view_is)
    (ap (option_map key_of) (row_of-without_slot session_row_rank c.args.slot rank rows)
    ∙ option_map-if key_of (t == c.args.slot) None (row_of session_row_rank rank rows))
