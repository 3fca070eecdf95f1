use Rattle.std.proofs.Common.{◌≡◌, ◌∙◌, true, refl, sym}
use Rattle.trdp_udp.specs.RestingWires.{news_at}
use Rattle.trdp_udp.proofs.RestingWireLemmas.{or_false}
use Rattle.trdp_udp.proofs.resting_wire.RestingWireWire.take.Goals as goal

pub returns-else-heard-clause-takes : goal.returns-else-heard-clause-takes
returns-else-heard-clause-takes g c =
    let there : news_at c.args.self.now c.args.port ≡ true =
    sym c.has_news.ensures ∙ c.if-not-has_news.false in
    rw (there, c.set_news.ensures.kept) (record {
      heard = c.ask-found.result.1;
      takes = c.ask-found.ensures.takes;
      is = rw (
        c.ask-found.ensures.kept,
        c.if-heard.false,
        ← or_false c.args.self.now.heard,
      ) refl;
    })
