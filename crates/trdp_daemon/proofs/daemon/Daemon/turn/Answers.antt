use Rattle.trdp_daemon.proofs.DaemonLemmas.{served_on}
use Rattle.trdp_daemon.proofs.daemon.Daemon.turn.Goals as goal

pub returns-clause-turn : goal.returns-clause-turn
returns-clause-turn g c = c.timed_turn.ensures.taken

pub returns-clause-served : goal.returns-clause-served
returns-clause-served g c = λ config lease wire clock n before.
    served_on before c.timed_turn.ensures.taken
