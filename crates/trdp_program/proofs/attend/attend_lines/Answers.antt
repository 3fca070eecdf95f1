use Rattle.std.proofs.Common.{◌≡◌, ◌+◌, ◌-◌, ◌^◌, ◌++◌, ◌∙◌, ap, ℕ, min, subst, arith}
use Rattle.trdp_program.specs.Attending.{FailsOver, ServesUntilDue, WritesLinesOver, text_of_line}
use Rattle.trdp_program.specs.Streams.{cut_line_end}
use Rattle.trdp_program.specs.declared.faults.ServeFault.TheVariants.{OutOfMemory}
use Rattle.trdp_program.proofs.AttendLemmas.{lines_none, lines_more, lines_fail, when_err}
use Rattle.trdp_program.proofs.LookLemmas.{text_none, text_both}
use Rattle.trdp_program.proofs.attend.attend_lines.Goals as goal

pub loop-line-init : goal.loop-line-init
loop-line-init g c =
    let due : c.new-log.result.due ≡ min (0 + c.args.step) (2 ^ 64 - 1) =
    omega (arith, c.new-log.ensures.due) in (
      λ config lease wire clock served. lines_none c.args.step c.new-log.result.due
          c.new-log.result.is_cut (g.W.Stream.attempts c.args.writer.now) due
          c.new-log.ensures.is_cut served,
      c.new-log.ensures.step,
      text_none (g.E.Write.contents c.args.errors.now),
    )

pub loop-line-preserved : goal.loop-line-preserved
loop-line-preserved g c =
    let wrote = c.in_ok-write.ensures.ok in (
      λ config lease wire clock served.
          let before = c.loop-line.invariant.0 config lease wire clock served in
          let on = c.attend_until-reading.ensures.served config lease wire clock before.served.n
          before.served.served in
          let come = subst (λ (d : ℕ). ServesUntilDue g.L.Wire.takings g.L.Wire.gives
          g.C.Clock.readings config lease wire clock before.served.served.turns
          before.served.served.gives d c.attend_until-reading.result
          c.attend_until-reading.new.daemon) c.due.ensures on in
          lines_more wrote.0 before come
          (wrote.2 ∙ ap
          (λ t. cut_line_end c.loop-line.log.is_cut ++ text_of_line t) c.totals.ensures)
          wrote.3 wrote.4
          (c.in_ok-write.ensures.due
          ∙ ap (λ s. min (c.attend_until-reading.result + s) (2 ^ 64 - 1))
          c.loop-line.invariant.1),
      c.write.ensures.step ∙ c.loop-line.invariant.1,
      text_both (g.E.Write.contents c.args.errors.now) (g.E.Write.contents c.loop-line.errors)
          (g.E.Write.contents c.attend_until-reading.new.errors) c.loop-line.invariant.2
          c.attend_until-reading.ensures.losses,
    )

pub returns-in_err-write-clause-err : goal.returns-in_err-write-clause-err
returns-in_err-write-clause-err g c = λ config lease wire clock served.
    let before = c.loop-line.invariant.0 config lease wire clock served in
    let on = c.attend_until-reading.ensures.served config lease wire clock before.served.n
    before.served.served in
    let come = subst (λ (d : ℕ). ServesUntilDue g.L.Wire.takings g.L.Wire.gives
    g.C.Clock.readings config lease wire clock before.served.served.turns
    before.served.served.gives d c.attend_until-reading.result
    c.attend_until-reading.new.daemon) c.due.ensures on in
    let fails = c.in_err-write.ensures.err in
    let fault = c.in_err-write.field-0.0 in
    when_err c.from_residual.result fault (FailsOver g.L.Wire.takings g.L.Wire.gives
    g.C.Clock.readings config lease wire clock c.args.step (g.W.Stream.attempts c.args.writer.now)
    (g.W.Stream.attempts c.write.new.writer) c.attend_until-reading.new.daemon)
    c.from_residual.ensures.1 (lines_fail before come fails.0 fails.1)

pub returns-in_err-write-clause-memory : goal.returns-in_err-write-clause-memory
returns-in_err-write-clause-memory g c =
    when_err c.from_residual.result c.in_err-write.field-0.0 (λ fault. fault ≡ OutOfMemory)
    c.from_residual.ensures.1 c.in_err-write.ensures.err.0

pub returns-in_err-write-clause-losses : goal.returns-in_err-write-clause-losses
returns-in_err-write-clause-losses g c =
    text_both (g.E.Write.contents c.args.errors.now) (g.E.Write.contents c.loop-line.errors)
    (g.E.Write.contents c.attend_until-reading.new.errors) c.loop-line.invariant.2
    c.attend_until-reading.ensures.losses

pub returns-clause-ok : goal.returns-clause-ok
returns-clause-ok g c = λ config lease wire clock served.
    let all : c.loop-line._line ≡ c.args.lines =
    omega (arith, c.loop-line-test.false, c.loop-line.auto._line-end) in (
      c.loop-line.log.due,
      c.loop-line.log.is_cut,
      subst (λ (n : ℕ). WritesLinesOver g.L.Wire.takings g.L.Wire.gives g.C.Clock.readings config
          lease wire clock c.args.step n c.loop-line.log.due c.loop-line.log.is_cut
          (g.W.Stream.attempts c.args.writer.now) (g.W.Stream.attempts c.loop-line.writer)
          c.loop-line.daemon) all (c.loop-line.invariant.0 config lease wire clock served),
    )
