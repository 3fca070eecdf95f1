use Rattle.std.proofs.Common.{rules}
use Rattle.trdp_udp.proofs.RestingWireLemmas.{noted_alone_at, noted_at}
use Rattle.trdp_udp.proofs.resting_wire.RestingWireWatchedWire.set_news.Goals as goal

pub returns-clause-noted : goal.returns-clause-noted
returns-clause-noted g c =
    noted_at c.args.self.now.wire.groups c.args.self.now.news _
    c.args.port c.args.may_be (search rules)

pub returns-clause-others : goal.returns-clause-others
returns-clause-others g c = λ other apart.
    noted_alone_at c.args.self.now.wire.groups c.args.self.now.news _
    c.args.port other c.args.may_be (search rules) apart
