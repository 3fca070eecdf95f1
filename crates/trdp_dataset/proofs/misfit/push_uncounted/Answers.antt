use Rattle.std.proofs.Common.{◌++◌, false, ap, refl}
use Rattle.trdp_dataset.specs.Findings.{faults_of}
use Rattle.trdp_dataset.specs.Misfits.{counts_missing}
use Rattle.trdp_dataset.proofs.ListedLemmas.{listed_end}
use Rattle.trdp_dataset.proofs.MisfitLemmas.{uncounted_turn}
use Rattle.trdp_dataset.proofs.misfit.push_uncounted.Goals as goal

pub loop-index-init : goal.loop-index-init
loop-index-init c = ap (λ es. faults_of c.args.found.now.items ++ counts_missing false es)
    c.as_slice-elements.ensures.value

pub loop-index-preserved : goal.loop-index-preserved
loop-index-preserved c =
    uncounted_turn c.loop-index.is_counted c.may_count-is_counted.result
    c.as_slice-elements.result.now c.loop-index.index _ (faults_of c.loop-index.found.items)
    (faults_of c.push_if_uncounted.new.found.items) _ c.loop-index-test.true
    c.in_ok-push_if_uncounted.ensures.faults c.may_count-is_counted.ensures.value
    c.loop-index.invariant

pub returns : goal.returns
returns c = record {
  faults = listed_end (counts_missing c.loop-index.is_counted) c.as_slice-elements.result.now
      c.loop-index.index (faults_of c.loop-index.found.items) _ refl c.loop-index-test.false
      c.loop-index.invariant;
}
