use Rattle.std.proofs.Common.{◌≡◌, arith, subst, ℕ}
use Rattle.trdp_daemon.specs.Daemons.{TakesTurns}
use Rattle.trdp_daemon.proofs.DaemonLemmas.{no_turns, turns_both, served_on}
use Rattle.trdp_daemon.proofs.daemon.Daemon.run.Goals as goal

pub loop-turn-init : goal.loop-turn-init
loop-turn-init g c = no_turns _ _ _ c.args.self.now

pub loop-turn-preserved : goal.loop-turn-preserved
loop-turn-preserved g c = turns_both c.loop-turn.invariant c.turn.ensures.turn

pub returns-clause-turns : goal.returns-clause-turns
returns-clause-turns g c =
    let all : c.loop-turn._turn ≡ c.args.turns =
    omega (arith, c.loop-turn-test.false, c.loop-turn.auto._turn-end) in
    subst (λ (n : ℕ). TakesTurns g.W.Wire.takings g.W.Wire.gives
    g.C.Clock.readings n c.args.self.now c.loop-turn.self) all c.loop-turn.invariant

pub returns-clause-served : goal.returns-clause-served
returns-clause-served g c = λ config lease wire clock n before.
    served_on before (returns-clause-turns g c)
