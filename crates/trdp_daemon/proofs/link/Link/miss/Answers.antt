use Rattle.std.proofs.Common.{[], refl, ap}
use Rattle.trdp_daemon.specs.declared.totals.Totals.{Totals}
use Rattle.trdp_base.proofs.ReportedLemmas.{adds_none}
use Rattle.trdp_daemon.proofs.link.Link.miss.Goals as goal

pub returns-clause-carried : goal.returns-clause-carried
returns-clause-carried g c = record {
  gives = [];
  offers = refl;
  takes = adds_none _;
  given = adds_none _;
  totals = ap (λ m. let t : Totals = record c.args.self.now.totals { memory = m } in
      t) c.one_more-self.ensures;
}
