use Rattle.trdp_daemon.specs.Daemons.{TakesTurns}
use Rattle.trdp_daemon.proofs.daemon.Daemon.run.Given as goal

-- that many turns were taken
abbrev pub invariant-loop-turn : goal.invariant-loop-turn
invariant-loop-turn g l =
    TakesTurns g.W.Wire.takings g.W.Wire.gives g.C.Clock.readings l._turn l.fn.self l.self
