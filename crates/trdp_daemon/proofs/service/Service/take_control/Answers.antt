use Rattle.std.proofs.Common.{Some, None}
use Rattle.trdp_model.specs.Events.{event_model}
use Rattle.trdp_text.specs.PortLines.{control_line_of}
use Rattle.trdp_daemon.proofs.VisitLemmas.{reads_ok, control_refused}
use Rattle.trdp_daemon.proofs.VisitLemmas.{control_skipped, control_took}
use Rattle.trdp_daemon.proofs.service.Service.take_control.Goals as goal

pub returns-in-Ok-Some-clause-comes : goal.returns-in-Ok-Some-clause-comes
returns-in-Ok-Some-clause-comes g c =
    control_took c.args.self.now c.hear.new.self _ c.args.slot
    c.args.from (control_line_of c.args.slot c.args.bytes.now) (event_model c.in-Ok-Some.event)
    (reads_ok _ _ (Some c.in-Ok-Some.event) c.in-Ok-Some.ensures.meaning
    c.in-Ok-Some.field-0-is)
    c.hear.ensures.heard c.take_event.ensures.comes

pub returns-in-Ok-None-clause-comes : goal.returns-in-Ok-None-clause-comes
returns-in-Ok-None-clause-comes g c =
    control_skipped _ _ c.args.link.now c.args.self.now
    c.hear-in-Ok-None.new.self c.args.slot c.args.from
    (control_line_of c.args.slot c.args.bytes.now)
    (reads_ok _ _ None c.in-Ok-None.ensures.meaning
    c.in-Ok-None.field-0-is)
    c.hear-in-Ok-None.ensures.heard

pub returns-in-Err-clause-comes : goal.returns-in-Err-clause-comes
returns-in-Err-clause-comes g c = control_refused c.args.self.now c.hear_again.new.self
    c.args.slot c.args.from (control_line_of c.args.slot c.args.bytes.now)
    c.in-Err.fault c.in-Err.ensures.meaning c.hear_again.ensures.heard c.refuse.ensures
