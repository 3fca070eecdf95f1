use Rattle.std.proofs.Common.{◌++◌, flat_map, ap, refl}
use Rattle.trdp_dataset.specs.Findings.{faults_of}
use Rattle.trdp_dataset.specs.Misfits.{missing_of}
use Rattle.trdp_dataset.proofs.ListedLemmas.{listed_end}
use Rattle.trdp_dataset.proofs.MisfitLemmas.{read_turn}
use Rattle.trdp_dataset.proofs.misfit.push_unknown.Goals as goal

pub loop-index-init : goal.loop-index-init
loop-index-init c = ap (λ es. faults_of c.args.found.now.items
    ++ flat_map (missing_of c.args.known.now) es) c.as_slice-elements.ensures.value

pub loop-index-preserved : goal.loop-index-preserved
loop-index-preserved c =
    let here = missing_of c.args.known.now in
    read_turn (flat_map here) (flat_map here) here c.as_slice-elements.result.now c.loop-index.index
    _ (faults_of c.loop-index.found.items) (faults_of c.push_if_unknown.new.found.items) _ refl
    c.loop-index-test.true c.in_ok-push_if_unknown.ensures.faults c.loop-index.invariant

pub returns : goal.returns
returns c = record {
  faults = listed_end (flat_map (missing_of c.args.known.now)) c.as_slice-elements.result.now
      c.loop-index.index (faults_of c.loop-index.found.items) _ refl c.loop-index-test.false
      c.loop-index.invariant;
}
