use Rattle.std.proofs.Common.{inr}
use Rattle.trdp_program.proofs.AttendLemmas.{attends_so}
use Rattle.trdp_program.proofs.daemon.report_daemon.Goals as goal

pub returns-in-Ok-clause-attends : goal.returns-in-Ok-clause-attends
returns-in-Ok-clause-attends g c = inr (record {
  config = c.in-Ok.taken;
  is = c.in-Ok.ensures.reads;
  before = g.E.Write.contents c.tell_text.new.errors;
  behind = g.E.Write.contents c.end_status-status.new.errors;
  words = c.tell_text.ensures;
  attends = attends_so c.attend.result (g.W.Stream.attempts c.args.writer.now)
      (g.W.Stream.attempts c.attend.new.writer) (g.E.Write.contents c.tell_text.new.errors)
      (g.E.Write.contents c.attend.new.errors)
      (g.E.Write.contents c.end_status-status.new.errors) c.attend.ensures.ok
      c.attend.ensures.err c.attend.ensures.losses c.end_status-status.ensures.ends;
  more = c.tell_ports.ensures;
})
