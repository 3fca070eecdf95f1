use Rattle.std.proofs.Common.{◌≡◌, ℕ, Option}
use Rattle.trdp_dataset.specs.Configs.{ConfigModel}
use Rattle.trdp_daemon.specs.Daemons.{HasServed}
use Rattle.trdp_program.specs.Attending.{WritesLinesOver}
use Rattle.trdp_program.specs.Faults.{AppendsText}
use Rattle.trdp_program.proofs.attend.attend_lines.Given as goal

-- a daemon that had taken no turn has served up to the latest line
abbrev pub invariant-loop-line : goal.invariant-loop-line
invariant-loop-line g l = ((config : ConfigModel) (lease : Option ℕ) (wire : g.row.L.Denot)
    (clock : g.row.C.Denot)
    → HasServed g.L.Wire.takings g.L.Wire.gives g.C.Clock.readings config lease wire clock 0
    l.fn.daemon
    → WritesLinesOver g.L.Wire.takings g.L.Wire.gives g.C.Clock.readings config lease wire clock
    l.fn.step
    l._line l.log.due l.log.is_cut (g.W.Stream.attempts l.fn.writer) (g.W.Stream.attempts l.writer)
    l.daemon)
    × (l.log.step ≡ l.fn.step)
    × AppendsText (g.E.Write.contents l.fn.errors) (g.E.Write.contents l.errors)
