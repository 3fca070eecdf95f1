use Rattle.std.proofs.Common.{◌≡◌, ℕ, suc, ◌+◌, take, ◌∙◌, sym, subst, arith}
use Rattle.trdp_index.specs.Rows.{AllBefore}
use Rattle.trdp_index.proofs.SearchLemmas.{all_before, none_before}
use Rattle.trdp_index.proofs.search.is_below.Goals as goal

pub returns-clause-below : goal.returns-clause-below
returns-clause-below g c = λ yes.
    let next : suc c.args.index ≡ c.args.index + 1 = omega arith in
    let before = all_before g.R.Ranked.rank_of c.args.rank c.rank_at.result c.args.index
    c.args.rows.now c.requires.rising c.rank_at.ensures (sym c.is_before.ensures ∙ yes) in
    subst (λ (n : ℕ). AllBefore g.R.Ranked.rank_of c.args.rank (take n c.args.rows.now)) next before

pub returns-clause-above : goal.returns-clause-above
returns-clause-above g c = λ no. none_before g.R.Ranked.rank_of c.args.rank c.rank_at.result
    c.args.index c.args.rows.now c.requires.rising c.rank_at.ensures (sym c.is_before.ensures ∙ no)
