use Rattle.std.proofs.KnownBytes.{Keeps-refl}
use Rattle.trdp_program.proofs.ServeLemmas.{counted_over}
use Rattle.trdp_program.proofs.serve.serve_turns.Goals as goal

pub returns-in_default-clause-ends : goal.returns-in_default-clause-ends
returns-in_default-clause-ends g c = λ config lease wire clock served.
    Keeps-refl (g.W.Write.contents c.args.writer.now)

pub returns-then-tell_line-clause-ends : goal.returns-then-tell_line-clause-ends
returns-then-tell_line-clause-ends g c = λ config lease wire clock served.
    let opened = rw c.in-Ok.is at served in (
      c.run.result,
      counted_over c.args.turns c.run.result
          (c.run.ensures.served config lease wire clock 0 opened) c.run.ensures.totals,
      c.tell_line.ensures.whole c.if-tell_line.true,
    )

pub returns-clause-ends : goal.returns-clause-ends
returns-clause-ends g c = λ config lease wire clock served.
    let opened = rw c.in-Ok.is at served in (
      c.run.result,
      counted_over c.args.turns c.run.result
          (c.run.ensures.served config lease wire clock 0 opened) c.run.ensures.totals,
      c.tell_line.ensures.told,
    )
