use Rattle.std.proofs.Common.{◌∙◌, sym, arith}
use Rattle.std.proofs.lemmas.List.{drop_all}
use Rattle.trdp_index.proofs.SearchLemmas.{absent_past, absent_at, found_at}
use Rattle.trdp_index.proofs.search.index_of.Goals as goal

pub returns-then-index-rows-clause-absent : goal.returns-then-index-rows-clause-absent
returns-then-index-rows-clause-absent g c = λ none. absent_past g.R.Ranked.rank_of
    c.args.rank c.lower_bound-index.result c.args.rows.now c.lower_bound-index.ensures.before
    (drop_all c.lower_bound-index.result c.args.rows.now (omega arith))

pub returns-then-is_same-clause-found : goal.returns-then-is_same-clause-found
returns-then-is_same-clause-found g c =
    let found = found_at g.R.Ranked.rank_of c.args.rank c.rank_at.result
    c.lower_bound-index.result c.args.rows.now c.requires c.lower_bound-index.ensures.before
    c.rank_at.ensures (sym c.is_same.ensures ∙ c.if-is_same.true) in
    record { within = omega arith; found = found.0; others = found.1 }

pub returns-else-is_same-clause-absent : goal.returns-else-is_same-clause-absent
returns-else-is_same-clause-absent g c = λ none.
    absent_at g.R.Ranked.rank_of c.args.rank c.rank_at.result
    c.lower_bound-index.result c.args.rows.now
    c.requires c.lower_bound-index.ensures.before c.lower_bound-index.ensures.after
    c.rank_at.ensures (sym c.is_same.ensures ∙ c.if-is_same.false)
