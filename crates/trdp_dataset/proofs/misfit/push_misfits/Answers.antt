use Rattle.std.proofs.Common.{◌++◌, ap, ◌∙◌}
use Rattle.trdp_dataset.specs.Findings.{faults_of}
use Rattle.trdp_dataset.specs.Misfits.{rows_seen, misfits}
use Rattle.trdp_dataset.proofs.misfit.push_misfits.Goals as goal

pub returns : goal.returns
returns c = record {
  faults = c.in_ok-push_misfits_of.ensures.faults
      ∙ ap (λ rows. faults_of c.args.found.now.items ++ misfits rows)
      (ap rows_seen c.deref.ensures.value ∙ c.in_ok-rows.ensures.value);
}
