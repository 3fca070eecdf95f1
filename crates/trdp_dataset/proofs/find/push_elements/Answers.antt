use Rattle.std.proofs.Common.{◌++◌, drop, ◌+◌, ap}
use Rattle.toml.specs.Data.{as_table}
use Rattle.toml.specs.View.{view}
use Rattle.trdp_dataset.specs.Positions.{element_positions}
use Rattle.trdp_dataset.specs.Seen.{tables_seen}
use Rattle.trdp_dataset.specs.Findings.{faults_of, all_faults, elements_if}
use Rattle.trdp_dataset.proofs.ListedLemmas.{listed_turn, listed_end, elements_step, no_elements}
use Rattle.trdp_dataset.proofs.find.push_elements.Goals as goal

pub loop-index-init : goal.loop-index-init
loop-index-init c = ap (λ ts. faults_of c.args.found.now.items
    ++ all_faults (element_positions ts)) c.members_at-members.ensures.value

pub loop-index-preserved : goal.loop-index-preserved
loop-index-preserved c =
    let vs = c.members_at-members.result.now in
    let v = c.index-members-index.result in
    listed_turn (λ xs. all_faults (element_positions (tables_seen xs)))
    (λ xs. all_faults (element_positions (tables_seen xs))) vs c.loop-index.index v
    (all_faults (elements_if (as_table (view v))))
    (faults_of c.loop-index.found.items) (faults_of c.push_elements_at.new.found.items) _
    (elements_step v (drop (c.loop-index.index + 1) vs))
    c.loop-index-test.true c.index-members-index.is c.in_ok-push_elements_at.ensures.faults
    c.loop-index.invariant

pub returns : goal.returns
returns c = record {
  faults = listed_end (λ xs. all_faults (element_positions (tables_seen xs)))
      c.members_at-members.result.now c.loop-index.index (faults_of c.loop-index.found.items) _
      no_elements c.loop-index-test.false c.loop-index.invariant;
}
