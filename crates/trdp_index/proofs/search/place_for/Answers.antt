use Rattle.std.proofs.Common.{take, drop, sym, subst}
use Rattle.trdp_index.specs.declared.rank.Rank.{Rank}
use Rattle.trdp_index.specs.Rows.{AllBefore, NoneBefore}
use Rattle.trdp_index.proofs.SearchLemmas.{insert_between}
use Rattle.trdp_index.proofs.search.place_for.Goals as goal

pub returns-clause-place : goal.returns-clause-place
returns-clause-place g c = λ row is.
    let rows = c.args.rows.now in
    let place = c.lower_bound.result in
    insert_between g.R.Ranked.rank_of row place rows
    (subst (λ (r : Rank). AllBefore g.R.Ranked.rank_of r (take place rows))
    (sym is) c.lower_bound.ensures.before)
    (subst (λ (r : Rank). NoneBefore g.R.Ranked.rank_of r (drop place rows))
    (sym is) c.lower_bound.ensures.after)
