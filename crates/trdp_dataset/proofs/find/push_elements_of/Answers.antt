use Rattle.std.proofs.Common.{◌++◌, drop, ◌+◌, ap}
use Rattle.toml.specs.Data.{as_table}
use Rattle.toml.specs.View.{view}
use Rattle.trdp_dataset.specs.Keys.{element_keys}
use Rattle.trdp_dataset.specs.Positions.{positions_of_all}
use Rattle.trdp_dataset.specs.Seen.{tables_seen}
use Rattle.trdp_dataset.specs.Findings.{faults_of, all_faults, positions_if}
use Rattle.trdp_dataset.proofs.ListedLemmas.{listed_turn, listed_end, table_step, no_tables}
use Rattle.trdp_dataset.proofs.find.push_elements_of.Goals as goal

pub loop-index-init : goal.loop-index-init
loop-index-init c = ap (λ ts. faults_of c.args.found.now.items
    ++ all_faults (positions_of_all element_keys ts)) c.members_at-members.ensures.value

pub loop-index-preserved : goal.loop-index-preserved
loop-index-preserved c =
    let vs = c.members_at-members.result.now in
    let v = c.index-members-index.result in
    listed_turn (λ xs. all_faults (positions_of_all element_keys (tables_seen xs)))
    (λ xs. all_faults (positions_of_all element_keys (tables_seen xs))) vs c.loop-index.index v
    (all_faults (positions_if element_keys (as_table (view v))))
    (faults_of c.loop-index.found.items) (faults_of c.push_element.new.found.items) _
    (table_step element_keys v (drop (c.loop-index.index + 1) vs))
    c.loop-index-test.true c.index-members-index.is c.in_ok-push_element.ensures.faults
    c.loop-index.invariant

pub returns : goal.returns
returns c = record {
  faults = listed_end (λ xs. all_faults (positions_of_all element_keys (tables_seen xs)))
      c.members_at-members.result.now c.loop-index.index (faults_of c.loop-index.found.items) _
      (no_tables element_keys) c.loop-index-test.false c.loop-index.invariant;
}
