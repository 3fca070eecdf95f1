use Rattle.std.proofs.Common.{rules}
use Rattle.std.proofs.KnownBytes.{Keeps-trans}
use Rattle.trdp_program.proofs.ServeLemmas.{serves_config}
use Rattle.trdp_program.proofs.serve.serve_with.Goals as goal

pub returns-clause-serves : goal.returns-clause-serves
returns-clause-serves g c =
    serves_config c.serve_service.result (g.W.Write.contents c.args.writer.now)
    (g.W.Write.contents c.serve_service.new.writer) (g.E.Write.contents c.args.errors.now)
    (g.E.Write.contents c.read_config.new.errors) (g.E.Write.contents c.end_status.new.errors)
    c.in-Ok.ensures.taken c.lease_time.ensures c.in-Ok.ensures.faultless
    c.serve_service.ensures.ends c.end_status.ensures.ends

pub returns-clause-faultless : goal.returns-clause-faultless
returns-clause-faultless g c = λ well.
    Keeps-trans (g.E.Write.contents c.args.errors.now)
    (g.E.Write.contents c.read_config.new.errors) (g.E.Write.contents c.end_status.new.errors)
    c.in-Ok.ensures.faultless (c.end_status.ensures.faultless well)

pub returns-in_default-clause-serves : goal.returns-in_default-clause-serves
returns-in_default-clause-serves g c = search rules
