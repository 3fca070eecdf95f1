use Rattle.std.proofs.Common.{Some, None, ◌∙◌, ap}
use Rattle.trdp_model.specs.Events.{event_model}
use Rattle.trdp_text.specs.PortLines.{operator_line_of}
use Rattle.trdp_text.specs.declared.operator_line.OperatorLine.TheVariants as line
use Rattle.trdp_daemon.specs.Visits.{operator_text}
use Rattle.trdp_daemon.proofs.ServiceLemmas.{comes_answered, comes_unanswered}
use Rattle.trdp_daemon.proofs.VisitLemmas.{line_ok, operator_asked, operator_refused}
use Rattle.trdp_daemon.proofs.VisitLemmas.{operator_skipped, operator_took}
use Rattle.trdp_daemon.proofs.service.Service.take_operator.Goals as goal

pub returns-in-Ok-clause-comes : goal.returns-in-Ok-clause-comes
returns-in-Ok-clause-comes g c =
    operator_took c.args.self.now _ c.args.from c.args.link.now.totals
    (operator_line_of c.args.bytes.now) (event_model c.in-Ok-Some-Event.event)
    (line_ok _ _ (Some (line.Event c.in-Ok-Some-Event.event)) c.in-Ok-Some-Event.ensures.line
    (c.in-Ok-Some-Event.field-0-is ∙ ap Some c.in-Ok-Some-Event.field-0-0-is))
    (comes_answered c.args.self.now _ (event_model c.in-Ok-Some-Event.event) c.args.from
    c.operator_text.result.now (c.operator_text.ensures ∙ ap operator_text c.in-Ok.ensures.fault)
    c.in-Ok.ensures.told c.give.ensures.carried)

pub returns-in_default-clause-comes : goal.returns-in_default-clause-comes
returns-in_default-clause-comes g c =
    operator_took c.args.self.now _ c.args.from c.args.link.now.totals
    (operator_line_of c.args.bytes.now) (event_model c.in-Ok-Some-Event.event)
    (line_ok _ _ (Some (line.Event c.in-Ok-Some-Event.event)) c.in-Ok-Some-Event.ensures.line
    (c.in-Ok-Some-Event.field-0-is ∙ ap Some c.in-Ok-Some-Event.field-0-0-is))
    (comes_unanswered c.args.self.now _ (event_model c.in-Ok-Some-Event.event) c.args.from
    c.in_default.ensures.memory c.in_default.ensures.reset c.in_default.ensures.lost)

pub returns-in-Ok-Some-Question-clause-comes : goal.returns-in-Ok-Some-Question-clause-comes
returns-in-Ok-Some-Question-clause-comes g c =
    operator_asked c.args.self.now _ c.args.from c.args.link.now.totals
    (operator_line_of c.args.bytes.now) c.in-Ok-Some-Question.question
    (line_ok _ _ (Some (line.Question c.in-Ok-Some-Question.question))
    c.in-Ok-Some-Question.ensures.line
    (c.in-Ok-Some-Question.field-0-is ∙ ap Some c.in-Ok-Some-Question.field-0-0-is))
    c.answer_question.ensures.comes

pub returns-in-Ok-None-clause-comes : goal.returns-in-Ok-None-clause-comes
returns-in-Ok-None-clause-comes g c =
    operator_skipped _ _ c.args.link.now c.args.self.now c.args.from c.args.link.now.totals
    (operator_line_of c.args.bytes.now)
    (line_ok _ _ None c.in-Ok-None.ensures.line c.in-Ok-None.field-0-is)

pub returns-in-Err-clause-comes : goal.returns-in-Err-clause-comes
returns-in-Err-clause-comes g c = operator_refused c.args.self.now c.args.from
    c.args.link.now.totals (operator_line_of c.args.bytes.now) c.in-Err.fault
    c.in-Err.ensures.fault c.refuse.ensures
