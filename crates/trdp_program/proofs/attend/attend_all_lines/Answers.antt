use Rattle.std.proofs.Common.{◌-◌, ◌^◌, ℕ, Bool}
use Rattle.trdp_program.specs.Attending.{FailsOver, WritesAllLines, WritesLinesOver, WritesUpTo}
use Rattle.trdp_program.proofs.AttendLemmas.{all_lines, lines_up_to, no_lines, on_ok, on_err}
use Rattle.trdp_program.proofs.attend.attend_all_lines.Goals as goal

pub returns-in-Ok-clause-ok : goal.returns-in-Ok-clause-ok
returns-in-Ok-clause-ok g c = λ config lease wire clock served.
    let old = g.W.Stream.attempts c.args.writer.now in
    let new = g.W.Stream.attempts c.attend_lines.new.writer in
    on_ok c.attend_lines.result
    ((due : ℕ) × (is_cut : Bool) × WritesLinesOver g.L.Wire.takings g.L.Wire.gives
    g.K.Clock.readings config lease wire clock c.args.step (2 ^ 64 - 1) due is_cut
    old new c.attend_lines.new.daemon)
    (WritesAllLines config lease c.args.step old new) (λ p. all_lines p.2)
    (c.attend_lines.ensures.ok config lease wire clock (rw c.in-Ok.is at served))

pub returns-in-Ok-clause-err : goal.returns-in-Ok-clause-err
returns-in-Ok-clause-err g c = λ config lease wire clock served.
    let old = g.W.Stream.attempts c.args.writer.now in
    let new = g.W.Stream.attempts c.attend_lines.new.writer in
    on_err c.attend_lines.result
    (FailsOver g.L.Wire.takings g.L.Wire.gives g.K.Clock.readings config lease wire clock
    c.args.step old new c.attend_lines.new.daemon)
    (λ fault. WritesUpTo fault config lease c.args.step old new)
    (λ fault p. lines_up_to fault p)
    (c.attend_lines.ensures.err config lease wire clock (rw c.in-Ok.is at served))

pub returns-clause-err : goal.returns-clause-err
returns-clause-err g c = λ config lease wire clock served.
    no_lines config lease c.args.step (g.W.Stream.attempts c.args.writer.now)
