use Rattle.std.proofs.Common.{◌<◌, if◌then◌else◌, arith, refl, sym, ap, inl}
use Rattle.trdp_program.proofs.ReportLemmas.{tells_more}
use Rattle.trdp_program.proofs.reports.Reports.tell_count.Goals as goal

pub returns-then-total-told-clause-told : goal.returns-then-total-told-clause-told
returns-then-total-told-clause-told g c =
    inl (omega (arith, c.if-total-told.true), refl, refl, refl)

pub returns-then-tell-clause-told : goal.returns-then-tell-clause-told
returns-then-tell-clause-told g c =
    let more : c.args.told < c.args.total = omega (arith, c.if-total-told.false) in
    tells_more c.args.what.now c.as_str-latest.result.now c.args.told c.args.total c.args.total
    c.tell.result c.args.self.now.is_cut c.tell.new.self.is_cut
    (g.E.Write.contents c.args.errors.now) (g.E.Write.contents c.tell.new.errors) more
    c.tell.ensures.told c.tell.ensures.whole (ap (λ r. r.is_cut) c.tell.ensures.kept)
    (sym (ap (λ b. if b then c.args.total else c.args.told) c.if-tell.true))

pub returns-clause-told : goal.returns-clause-told
returns-clause-told g c =
    let more : c.args.told < c.args.total = omega (arith, c.if-total-told.false) in
    tells_more c.args.what.now c.as_str-latest.result.now c.args.told c.args.total c.args.told
    c.tell.result c.args.self.now.is_cut c.tell.new.self.is_cut
    (g.E.Write.contents c.args.errors.now) (g.E.Write.contents c.tell.new.errors) more
    c.tell.ensures.told c.tell.ensures.whole (ap (λ r. r.is_cut) c.tell.ensures.kept)
    (sym (ap (λ b. if b then c.args.total else c.args.told) c.if-tell.false))
