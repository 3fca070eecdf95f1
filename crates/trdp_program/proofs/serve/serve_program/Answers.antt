use Rattle.std.proofs.Common.{None, Err, refl}
use Rattle.trdp_program.specs.Faults.{serve_fault}
use Rattle.trdp_program.specs.Serving.{CountsTurns}
use Rattle.trdp_program.proofs.ServeLemmas.{early_fault, ends_over, serves_config}
use Rattle.trdp_program.proofs.serve.serve_program.Goals as goal

pub returns-in-Ok-bind-clause-serves : goal.returns-in-Ok-bind-clause-serves
returns-in-Ok-bind-clause-serves g c =
    let old = g.W.Write.contents c.args.writer.now in
    let new = g.W.Write.contents c.serve_turns.new.writer in
    serves_config c.serve_turns.result old new (g.E.Write.contents c.args.errors.now)
    (g.E.Write.contents c.read_config.new.errors) (g.E.Write.contents c.end_status.new.errors)
    c.in-Ok.ensures.taken refl c.in-Ok.ensures.faultless
    (ends_over _ _ _ _ _ c.in-Ok.config None c.in-Ok-bind.wire c.new.result c.args.turns
    c.serve_turns.result old new (c.serve_turns.ensures.ends c.in-Ok.config None
    c.in-Ok-bind.wire c.new.result c.new-daemon.ensures.served))
    c.end_status.ensures.ends

pub returns-in-Err-clause-serves : goal.returns-in-Err-clause-serves
returns-in-Err-clause-serves g c =
    let told = g.W.Write.contents c.args.writer.now in
    let ends = early_fault (CountsTurns c.in-Ok.config None c.args.turns) c.in-Err.fault told in
    serves_config (Err (serve_fault c.in-Err.fault)) told told
    (g.E.Write.contents c.args.errors.now) (g.E.Write.contents c.read_config.new.errors)
    (g.E.Write.contents c.end_status-in-Err.new.errors) c.in-Ok.ensures.taken refl
    c.in-Ok.ensures.faultless ends (rw c.from.ensures at c.end_status-in-Err.ensures.ends)
