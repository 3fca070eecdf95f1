use Rattle.std.proofs.Common.{◌∷◌}
use Rattle.trdp_script.proofs.PlayLemmas.Results.{on_ok, if_err}
use Rattle.trdp_script.proofs.ScriptLemmas.Steps.{plays_both, stops_after}
use Rattle.trdp_script.proofs.script.Script.take_to_newline.Goals as goal

pub returns-in-Ok-clause-ok : goal.returns-in-Ok-clause-ok
returns-in-Ok-clause-ok g c = on_ok c.end_line.result
    (plays_both (c.in-Ok.ensures.ok (g.W.Write.contents c.args.writer.now))) c.end_line.ensures.ok

pub returns-in-Ok-clause-err : goal.returns-in-Ok-clause-err
returns-in-Ok-clause-err g c =
    if_err c.end_line.result (λ fault stops later. stops_after c.end_line.new.self _ (10 ∷ later)
    fault (c.in-Ok.ensures.ok (g.W.Write.contents c.args.writer.now)) (stops later))
    c.end_line.ensures.err
