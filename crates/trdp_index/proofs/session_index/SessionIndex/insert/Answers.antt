use Rattle.std.proofs.Common.{Some, ◌∙◌, sym, ap, vec_capacity, arith}
use Rattle.std.specs.Prelude.{option_map}
use Rattle.trdp_index.specs.declared.session_row.SessionRow.{SessionRow}
use Rattle.trdp_index.specs.SessionRows.{session_rank, session_row, session_row_rank}
use Rattle.trdp_index.specs.Ranks.{is_same}
use Rattle.trdp_index.specs.Rows.{row_of}
use Rattle.trdp_index.proofs.RowLemmas.{row_of-with_row, option_map-if}
use Rattle.trdp_index.proofs.RowLemmas.{IsKept-with_row, none_from_option_map}
use Rattle.trdp_index.proofs.session_index.SessionIndex.insert.Goals as goal

pub invariant_of-self : goal.invariant_of-self
invariant_of-self c =
    let rows = c.self.inside.rows.items in
    let row = session_row c.args.session c.args.slot c.args.role c.args.key in
    let items = c.put_in.ensures.items in
    let place = rw c.deref.ensures.value at c.place_for-place.ensures.place
    row (sym c.session_rank.ensures) in
    let spare = rw (← c.self.view_is) at c.requires.spare in
    let fresh = none_from_option_map (λ (r : SessionRow). r.key) (row_of session_row_rank
    (session_row_rank row) rows) (rw (← c.self.view_is) at c.requires.fresh) in
    rw (items, place) (IsKept-with_row session_row_rank row rows c.self.inside.room
    (vec_capacity c.self.inside.rows) _ c.self.invariant
    (omega (arith, c.put_in.ensures.capacity)) spare fresh)

pub returns-clause-keys : goal.returns-clause-keys
returns-clause-keys c = λ other t its.
    let rows = c.self.inside.rows.items in
    let row = session_row c.args.session c.args.slot c.args.role c.args.key in
    let rank = session_rank other t its in
    let items = c.put_in.ensures.items in
    let place = rw c.deref.ensures.value at c.place_for-place.ensures.place
    row (sym c.session_rank.ensures) in
    let key_of = λ (r : SessionRow). r.key in
    let fresh = none_from_option_map key_of (row_of session_row_rank (session_row_rank row) rows)
    (rw (← c.self.view_is) at c.requires.fresh) in
    rw (items, place, ← c.self.view_is)
    (ap (option_map key_of) (row_of-with_row session_row_rank rank row rows fresh)
    ∙ option_map-if key_of (is_same (session_row_rank row) rank)
    (Some row) (row_of session_row_rank rank rows))
