use Rattle.trdp_index.specs.ComRows.{com_row_rank, is_same_com}
use Rattle.trdp_index.proofs.RowLemmas.{IsRising-drop, IsRising-filter}
use Rattle.trdp_index.proofs.RunLemmas.{run_is}
use Rattle.trdp_index.proofs.com_index.ComIndex.run.Goals as goal

pub lower_bound-count-requires-clause-rising : goal.lower_bound-count-requires-clause-rising
lower_bound-count-requires-clause-rising c =
    rw (c.split_at.ensures.back, c.deref-2.ensures.value) (IsRising-drop com_row_rank
    c.lower_bound-start.result c.self.inside.rows.items c.self.invariant.rising)

pub returns-clause-rows : goal.returns-clause-rows
returns-clause-rows c =
    let start = c.com_start.ensures in
    let rows = c.deref.ensures.value in
    let back = c.split_at.ensures.back in
    let again = c.deref-2.ensures.value in
    rw (c.split_at-2.ensures.front, back, again, ← c.self.view_is)
    (run_is c.args.com_id c.lower_bound-start.result c.lower_bound-count.result
    c.self.inside.rows.items (rw (start, rows) at c.lower_bound-start.ensures.before)
    (rw (start, rows) at c.lower_bound-start.ensures.after)
    (rw (c.com_end.ensures, back, again) at c.lower_bound-count.ensures.before)
    (rw (c.com_end.ensures, back, again) at c.lower_bound-count.ensures.after))

pub returns-clause-rising : goal.returns-clause-rising
returns-clause-rising c = rw (returns-clause-rows c, ← c.self.view_is) (IsRising-filter com_row_rank
    (λ row. is_same_com row.com_id c.args.com_id) c.self.inside.rows.items c.self.invariant.rising)
