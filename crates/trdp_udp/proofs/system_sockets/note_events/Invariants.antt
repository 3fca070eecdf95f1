use Rattle.std.proofs.Common.{◌≡◌, map}
use Rattle.trdp_wire.specs.News.{with_news}
use Rattle.trdp_udp.specs.SystemSockets.{source_number}
use Rattle.trdp_udp.proofs.system_sockets.note_events.Given as goal

-- those so far are noted
abbrev pub invariant-loop-event : goal.invariant-loop-event
invariant-loop-event l =
    l.news ≡ with_news (map (λ e. source_number e.now) l.yielded) l.fn.news
