use Rattle.std.proofs.Common.{◌≡◌, drop}
use Rattle.trdp_wire.specs.News.{with_news}
use Rattle.trdp_wire.proofs.news.note_told.Given as goal

-- with those to come all are noted
abbrev pub invariant-loop-socket : goal.invariant-loop-socket
invariant-loop-socket l =
    with_news (drop l.socket-index l.sockets) l.news ≡ with_news l.sockets l.fn.news
