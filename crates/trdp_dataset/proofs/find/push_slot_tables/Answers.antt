use Rattle.std.proofs.Common.{◌++◌, drop, ◌+◌, ap}
use Rattle.toml.specs.Data.{as_table}
use Rattle.toml.specs.View.{view}
use Rattle.trdp_dataset.specs.Keys.{slot_keys}
use Rattle.trdp_dataset.specs.Positions.{positions_of_all}
use Rattle.trdp_dataset.specs.Seen.{tables_seen}
use Rattle.trdp_dataset.specs.Findings.{faults_of, all_faults, positions_if}
use Rattle.trdp_dataset.proofs.ListedLemmas.{listed_turn, listed_end, table_step, no_tables}
use Rattle.trdp_dataset.proofs.find.push_slot_tables.Goals as goal

pub loop-slot-init : goal.loop-slot-init
loop-slot-init c = ap (λ ts. faults_of c.args.found.now.items
    ++ all_faults (positions_of_all slot_keys ts)) c.members_at-members.ensures.value

pub loop-slot-preserved : goal.loop-slot-preserved
loop-slot-preserved c =
    let vs = c.members_at-members.result.now in
    let v = c.index-members-slot.result in
    listed_turn (λ xs. all_faults (positions_of_all slot_keys (tables_seen xs)))
    (λ xs. all_faults (positions_of_all slot_keys (tables_seen xs))) vs c.loop-slot.slot v
    (all_faults (positions_if slot_keys (as_table (view v))))
    (faults_of c.loop-slot.found.items) (faults_of c.push_slot.new.found.items) _
    (table_step slot_keys v (drop (c.loop-slot.slot + 1) vs))
    c.loop-slot-test.true c.index-members-slot.is c.in_ok-push_slot.ensures.faults
    c.loop-slot.invariant

pub returns : goal.returns
returns c = record {
  faults = listed_end (λ xs. all_faults (positions_of_all slot_keys (tables_seen xs)))
      c.members_at-members.result.now c.loop-slot.slot (faults_of c.loop-slot.found.items) _
      (no_tables slot_keys) c.loop-slot-test.false c.loop-slot.invariant;
}
