use Rattle.trdp_script.proofs.PlayLemmas.Results.{on_ok, if_err}
use Rattle.trdp_script.proofs.ScriptLemmas.Pieces.{midst_more, midst_stops, midst_taken}
use Rattle.trdp_script.proofs.ScriptLemmas.Pieces.{midst_too_long}
use Rattle.trdp_script.proofs.script.Script.take_piece.Goals as goal

pub loop-before-preserved : goal.loop-before-preserved
loop-before-preserved g c =
    midst_more c.take_to_newline.new.self _ c.in-Some.before.now
    c.in-Some.behind.now c.loop-before.invariant
    c.in-Some.ensures c.in-Ok.ensures.ok c.in-Ok.ensures.sound c.in-Ok.ensures.number

pub returns-in-Err-clause-err : goal.returns-in-Err-clause-err
returns-in-Err-clause-err g c =
    midst_stops c.take_to_newline.new.self _ c.in-Some.before.now c.in-Some.behind.now
    c.in-Err.fault c.loop-before.invariant c.in-Some.ensures c.in-Err.ensures.err

pub returns-clause-ok : goal.returns-clause-ok
returns-clause-ok g c =
    on_ok c.gather.result (midst_taken c.gather.new.self _ c.loop-before.invariant)
    (c.gather.ensures.ok (g.W.Write.contents c.loop-before.writer))

pub returns-clause-err : goal.returns-clause-err
returns-clause-err g c =
    if_err c.gather.result
    (λ fault stops. midst_too_long c.gather.new.self _ fault c.loop-before.invariant stops)
    (c.gather.ensures.err (g.W.Write.contents c.loop-before.writer))
