use Rattle.trdp_script.proofs.ScriptLemmas.Endings.{run_cut, run_written, run_fails}
use Rattle.trdp_script.proofs.script.Script.run_whole.Goals as goal

pub returns-then-is_write_fault : goal.returns-then-is_write_fault
returns-then-is_write_fault g c = record {
  script = λ config input start is. run_cut config _ _ _ _ input _ _ start
      (c.run-end.ensures.run input is) (c.is_write_fault.ensures.write c.if-is_write_fault.true);
}

pub returns-in-Ok : goal.returns-in-Ok
returns-in-Ok g c = record {
  script = λ config input start is. run_written config _ _ c.write_out.new.self
      _ _ _ input _ _ start c.in-Ok.ensures.empty (c.run-end.ensures.run input is)
      (c.is_write_fault.ensures.other c.if-is_write_fault.false) c.in-Ok.ensures.passed;
}

pub returns-in-Err : goal.returns-in-Err
returns-in-Err g c = record {
  script = λ config input start is. run_fails config _ _ _ _ _ input _ _ c.in-Err.fault start
      (c.run-end.ensures.run input is) (c.is_write_fault.ensures.other c.if-is_write_fault.false)
      c.in-Err.ensures.cut c.in-Err.ensures.fault;
}
