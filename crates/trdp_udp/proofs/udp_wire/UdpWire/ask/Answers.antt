use Rattle.std.proofs.Common.{◌∙◌, ap, sym, Ok, if◌then◌else◌}
use Rattle.std.specs.Prelude.{is_err}
use Rattle.trdp_wire.specs.Told.{Failed, Nothing}
use Rattle.trdp_udp.proofs.SocketWireLemmas.{took_nothing, took_answer, took_datagram, took_failure}
use Rattle.trdp_udp.proofs.udp_wire.UdpWire.ask.Goals as goal

pub returns-in-Ok-None-clause-takes : goal.returns-in-Ok-None-clause-takes
returns-in-Ok-None-clause-takes g c =
    took_nothing c.args.self.now.groups c.args.port c.take.new.room c.take.result
    c.args.self.now.failures c.args.self.now.unread c.socket_of.ensures
    (c.in-Ok-None.is ∙ ap Ok c.in-Ok-None.field-0-is) c.take.ensures.told

pub returns-then-is_answer-clause-takes : goal.returns-then-is_answer-clause-takes
returns-then-is_answer-clause-takes g c =
    took_answer c.args.self.now.groups c.args.port c.take.new.room
    c.split_at.result.0.now c.take.result c.in-Ok-Some.from c.in-Ok-Some.len
    c.args.self.now.failures c.args.self.now.unread c.socket_of.ensures
    (c.in-Ok-Some.is ∙ ap Ok c.in-Ok-Some.field-0-is) c.split_at.ensures.front
    (sym c.is_answer.ensures ∙ c.if-is_answer.true) c.take.ensures.told

pub returns-else-is_answer-clause-takes : goal.returns-else-is_answer-clause-takes
returns-else-is_answer-clause-takes g c =
    took_datagram c.args.self.now.groups c.args.port c.take.new.room
    c.split_at.result.0.now c.take.result c.in-Ok-Some.from c.in-Ok-Some.len
    c.args.self.now.failures c.args.self.now.unread c.socket_of.ensures
    (c.in-Ok-Some.is ∙ ap Ok c.in-Ok-Some.field-0-is) c.split_at.ensures.front
    (sym c.is_answer.ensures ∙ c.if-is_answer.false) c.take.ensures.told

pub returns-in-Ok-clause-takes : goal.returns-in-Ok-clause-takes
returns-in-Ok-clause-takes g c =
    took_failure c.args.self.now.groups c.args.port c.take.new.room c.take.result
    c.in-Err.fault c.fail.result _ c.args.self.now.failures c.fail.new.failures
    c.args.self.now.unread c.socket_of.ensures c.in-Err.is
    (ap (λ r. if is_err r then Failed else Nothing) (sym c.in-Ok.is))
    c.fail.ensures.fails c.fail.ensures.count c.take.ensures.told

pub returns-in-Err-fail-clause-takes : goal.returns-in-Err-fail-clause-takes
returns-in-Err-fail-clause-takes g c =
    took_failure c.args.self.now.groups c.args.port c.take.new.room c.take.result
    c.in-Err.fault c.fail.result _ c.args.self.now.failures c.fail.new.failures
    c.args.self.now.unread c.socket_of.ensures c.in-Err.is
    (ap (λ r. if is_err r then Failed else Nothing) (sym c.in-Err-fail.is))
    c.fail.ensures.fails c.fail.ensures.count c.take.ensures.told
