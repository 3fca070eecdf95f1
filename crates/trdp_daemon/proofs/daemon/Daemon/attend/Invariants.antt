use Rattle.trdp_daemon.proofs.RestLemmas.{Attended}
use Rattle.trdp_daemon.proofs.daemon.Daemon.attend.Given as goal

-- that many turns were taken, all of them early, each with a rest after it
abbrev pub invariant-loop-turn : goal.invariant-loop-turn
invariant-loop-turn g l = Attended g.W.Wire.takings g.W.Wire.gives g.W.WatchedWire.rested
    g.C.Clock.readings l.fn.until l._turn l.reading l.fn.self l.self
