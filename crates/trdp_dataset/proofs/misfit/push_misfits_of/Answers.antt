use Rattle.std.proofs.Common.{◌∙◌}
use Rattle.trdp_dataset.specs.Misfits.{rows_seen}
use Rattle.trdp_dataset.proofs.MisfitLemmas.{misfits_listed}
use Rattle.trdp_dataset.proofs.misfit.push_misfits_of.Goals as goal

pub returns : goal.returns
returns c = record {
  faults = misfits_listed (rows_seen c.args.rows.now) _ _ _ _ _ _ _ c.in_ok-known.ensures.known
      (c.in_ok-sound.ensures.value ∙ c.in_ok-datasets.ensures.value)
      c.in_ok-known.ensures.faults c.in_ok-push_unfit.ensures.faults
      c.in_ok-push_too_deep.ensures.faults c.in_ok-push_too_big.ensures.faults;
}
