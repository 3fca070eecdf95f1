use Rattle.std.proofs.Common.{sym, arith, vec_capacity}
use Rattle.trdp_index.specs.ComRows.{com_row_rank, is_same_com}
use Rattle.trdp_index.specs.Rows.{row_of}
use Rattle.trdp_index.proofs.RowLemmas.{filter-with_row, IsKept-with_row, none_from_is_some}
use Rattle.trdp_index.proofs.com_index.ComIndex.insert.Goals as goal

pub invariant_of-self : goal.invariant_of-self
invariant_of-self c =
    let rows = c.self.inside.rows.items in
    let items = c.put_in.ensures.items in
    let place = rw c.deref.ensures.value at c.place_for-place.ensures.place
    c.args.row (sym c.rank.ensures) in
    let spare = rw (← c.self.view_is) at c.requires.spare in
    let fresh = none_from_is_some (row_of com_row_rank (com_row_rank c.args.row) rows)
    (rw (← c.self.view_is) at c.requires.fresh) in
    rw (items, place) (IsKept-with_row com_row_rank c.args.row rows c.self.inside.room
    (vec_capacity c.self.inside.rows) _ c.self.invariant
    (omega (arith, c.put_in.ensures.capacity)) spare fresh)

pub returns-clause-runs : goal.returns-clause-runs
returns-clause-runs c = λ com_id.
    let rows = c.self.inside.rows.items in
    let items = c.put_in.ensures.items in
    let place = rw c.deref.ensures.value at c.place_for-place.ensures.place
    c.args.row (sym c.rank.ensures) in
    rw (items, place, ← c.self.view_is) (filter-with_row com_row_rank
    (λ row. is_same_com row.com_id com_id) c.args.row rows c.self.invariant.rising)
