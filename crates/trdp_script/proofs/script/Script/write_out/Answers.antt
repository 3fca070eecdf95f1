use Rattle.trdp_script.proofs.ScriptLemmas.Steps.{write_stops}
use Rattle.trdp_script.proofs.script.Script.write_out.Goals as goal

pub returns-clause-err : goal.returns-clause-err
returns-clause-err g c =
    write_stops _ _ _ _ c.flush.result c.flush.ensures.fault c.flush.ensures.err
