use Rattle.trdp_daemon.proofs.DaemonLemmas.{served_none}
use Rattle.trdp_daemon.proofs.daemon.Daemon.with_lease.Goals as goal

pub returns-in-Ok-new-clause-served : goal.returns-in-Ok-new-clause-served
returns-in-Ok-new-clause-served g c =
    served_none g.W.Wire.takings g.W.Wire.gives g.C.Clock.readings
    c.args.config c.args.lease c.args.wire c.args.clock c.in-Ok-new.service c.new-in-Ok-new.result
    c.in-Ok-new.ensures.opened c.new-in-Ok-new.ensures.wire c.new-in-Ok-new.ensures.totals
    c.new-in-Ok-new.ensures.asked
