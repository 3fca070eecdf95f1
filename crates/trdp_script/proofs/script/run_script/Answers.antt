use Rattle.trdp_script.proofs.script.run_script.Goals as goal

pub returns-in-Ok : goal.returns-in-Ok
returns-in-Ok g c = record {
  script = λ input is.
      c.run_whole.ensures.script c.args.config input c.in-Ok.ensures.start is;
}
