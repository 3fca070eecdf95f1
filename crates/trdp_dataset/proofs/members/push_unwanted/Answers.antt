use Rattle.std.proofs.Common.{take, map, refl}
use Rattle.toml.specs.View.{view}
use Rattle.trdp_dataset.specs.Findings.{faults_of, unwanted}
use Rattle.trdp_dataset.proofs.ListedLemmas.{listed_end}
use Rattle.trdp_dataset.proofs.MisfitLemmas.{unwanted_turn}
use Rattle.trdp_dataset.proofs.members.push_unwanted.Goals as goal

pub loop-index-preserved : goal.loop-index-preserved
loop-index-preserved c =
    unwanted_turn c.args.key c.args.are_few c.args.members.now c.loop-index.index
    c.index-members-index.result (map view c.compared_with-before.result.now)
    (faults_of c.loop-index.found.items) (faults_of c.push_if_unwanted.new.found.items) _
    c.loop-index-test.true c.index-members-index.is c.compared_with-before.ensures.value
    c.in_ok-push_if_unwanted.ensures.faults c.loop-index.invariant

pub returns : goal.returns
returns c = record {
  faults = listed_end (λ xs. unwanted c.args.key c.args.are_few
      (map view (take c.loop-index.index c.args.members.now)) (map view xs)) c.args.members.now
      c.loop-index.index (faults_of c.loop-index.found.items) _ refl c.loop-index-test.false
      c.loop-index.invariant;
}
