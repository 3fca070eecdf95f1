use Rattle.std.proofs.Common.{ap}
use Rattle.trdp_udp.specs.SystemSockets.{source_number}
use Rattle.trdp_udp.proofs.RestingWireLemmas.{noted_next}
use Rattle.trdp_udp.proofs.system_sockets.note_events.Goals as goal

pub loop-event-preserved : goal.loop-event-preserved
loop-event-preserved c = noted_next (λ e. source_number e.now) c.loop-event.yielded c.in-Some.event
    c.args.news.now c.loop-event.news c.set_news.new.news c.token.result.0 c.loop-event.invariant
    (ap (λ t. t.0) c.token.ensures) c.set_news.ensures
