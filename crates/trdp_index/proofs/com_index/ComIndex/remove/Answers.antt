use Rattle.std.proofs.Common.{not, refl, ◌∙◌, sym, ap}
use Rattle.trdp_index.specs.ComRows.{com_rank, com_row_rank, is_same_com, run_of}
use Rattle.trdp_index.specs.Ranks.{is_same}
use Rattle.trdp_index.proofs.RowLemmas.{filter-swap, IsKept-without}
use Rattle.trdp_index.proofs.SearchLemmas.{has_found}
use Rattle.trdp_index.proofs.com_index.ComIndex.remove.Goals as goal

pub invariant_of-self : goal.invariant_of-self
invariant_of-self c =
    let found = rw (c.deref.ensures.value, c.com_rank.ensures) at c.in-Some.ensures.found in
    rw (c.remove.ensures.items, c.remove.ensures.capacity, found.others)
    (IsKept-without com_row_rank (com_rank c.args.com_id c.args.slot c.args.handle)
    c.self.inside.rows.items c.self.inside.room _ c.self.invariant)

pub returns-in-Some-clause-there : goal.returns-in-Some-clause-there
returns-in-Some-clause-there c =
    let found = rw (c.deref.ensures.value, c.com_rank.ensures) at c.in-Some.ensures.found in
    rw (← c.self.view_is) (sym (has_found com_row_rank (com_rank c.args.com_id
    c.args.slot c.args.handle) c.self.inside.rows.items c.in-Some.index found))

pub returns-in-Some-clause-runs : goal.returns-in-Some-clause-runs
returns-in-Some-clause-runs c = λ other.
    let rank = com_rank c.args.com_id c.args.slot c.args.handle in
    let found = rw (c.deref.ensures.value, c.com_rank.ensures) at c.in-Some.ensures.found in
    rw (c.remove.ensures.items, found.others, ← c.self.view_is)
    (filter-swap (λ row. is_same_com row.com_id other)
    (λ row. not (is_same (com_row_rank row) rank)) c.self.inside.rows.items)

pub returns-in-None-clause-runs : goal.returns-in-None-clause-runs
returns-in-None-clause-runs c = λ other.
    let rows = c.self.inside.rows.items in
    let rank = com_rank c.args.com_id c.args.slot c.args.handle in
    let absent = rw (c.deref.ensures.value, c.com_rank.ensures) at c.in-None.ensures.absent in
    rw (← c.self.view_is)
    (ap (run_of other) (sym (absent refl).others)
    ∙ filter-swap (λ row. is_same_com row.com_id other)
    (λ row. not (is_same (com_row_rank row) rank)) rows)
