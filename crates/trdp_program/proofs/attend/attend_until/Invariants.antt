use Rattle.std.proofs.Common.{ℕ, Option}
use Rattle.trdp_dataset.specs.Configs.{ConfigModel}
use Rattle.trdp_daemon.specs.Daemons.{HasServed}
use Rattle.trdp_program.specs.Faults.{AppendsText}
use Rattle.trdp_program.specs.Reporting.{AttendsToLooks}
use Rattle.trdp_program.proofs.LookLemmas.{LooksSoFar}
use Rattle.trdp_program.proofs.attend.attend_until.Given as goal

-- a daemon that had served goes on, before the line is due
abbrev pub invariant-loop-look : goal.invariant-loop-look
invariant-loop-look g l = ((config : ConfigModel) (lease : Option ℕ) (wire : g.row.L.Denot)
    (clock : g.row.C.Denot)
    (n : ℕ)
    → (before : HasServed g.L.Wire.takings g.L.Wire.gives g.C.Clock.readings config lease wire clock
    n
    l.fn.daemon)
    → LooksSoFar g.L.Wire.takings g.L.Wire.gives g.C.Clock.readings config lease wire clock
    before.turns before.gives l.fn.due l._look l.reading l.daemon)
    × AppendsText (g.E.Write.contents l.fn.errors) (g.E.Write.contents l.errors)
    × (m : ℕ) × AttendsToLooks g.L.Wire.takings g.L.Wire.gives g.L.WatchedWire.rested
    g.C.Clock.readings l.fn.due m l.fn.daemon l.daemon l.fn.reports l.reports
    (g.E.Write.contents l.fn.errors) (g.E.Write.contents l.errors)
