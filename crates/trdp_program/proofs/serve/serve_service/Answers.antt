use Rattle.trdp_program.specs.Serving.{CountsTurns}
use Rattle.trdp_program.proofs.ServeLemmas.{early_fault, ends_over}
use Rattle.trdp_program.proofs.serve.serve_service.Goals as goal

pub returns-in-Ok-Udp-clause-ends : goal.returns-in-Ok-Udp-clause-ends
returns-in-Ok-Udp-clause-ends g c =
    ends_over _ _ _ _ _ c.args.start.config c.args.start.lease c.in-Ok-Udp.wire c.args.start.clock
    c.args.turns c.serve_turns.result (g.W.Write.contents c.args.writer.now)
    (g.W.Write.contents c.serve_turns.new.writer)
    (c.serve_turns.ensures.ends c.args.start.config c.args.start.lease c.in-Ok-Udp.wire
    c.args.start.clock c.with_lease-daemon.ensures.served)

pub returns-in-Ok-Controls-clause-ends : goal.returns-in-Ok-Controls-clause-ends
returns-in-Ok-Controls-clause-ends g c =
    ends_over _ _ _ _ _ c.args.start.config c.args.start.lease c.in-Ok-Controls.wire
    c.args.start.clock c.args.turns c.serve_turns-in-Ok-Controls.result (g.W.Write.contents c.args.writer.now)
    (g.W.Write.contents c.serve_turns-in-Ok-Controls.new.writer)
    (c.serve_turns-in-Ok-Controls.ensures.ends c.args.start.config c.args.start.lease
    c.in-Ok-Controls.wire c.args.start.clock
    c.with_lease-daemon-in-Ok-Controls.ensures.served)

pub returns-in-Err-clause-ends : goal.returns-in-Err-clause-ends
returns-in-Err-clause-ends g c =
    rw c.from.ensures (early_fault (CountsTurns c.args.start.config c.args.start.lease c.args.turns)
    c.in-Err.fault (g.W.Write.contents c.args.writer.now))
