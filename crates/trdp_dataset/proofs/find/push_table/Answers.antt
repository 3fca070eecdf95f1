use Rattle.std.proofs.Common.{drop, ◌+◌}
use Rattle.toml.specs.View.{table_view}
use Rattle.trdp_dataset.specs.Positions.{position_at, positions_at}
use Rattle.trdp_dataset.specs.Findings.{faults_of, faults_at, all_faults}
use Rattle.trdp_dataset.proofs.ListedLemmas.{listed_end, key_step, no_keys}
use Rattle.trdp_dataset.proofs.MisfitLemmas.{read_turn}
use Rattle.trdp_dataset.proofs.find.push_table.Goals as goal

pub loop-key-preserved : goal.loop-key-preserved
loop-key-preserved c =
    let top = table_view c.args.table.now in
    read_turn (λ ks. all_faults (positions_at ks top)) (λ ks. all_faults (positions_at ks top))
    (λ k. faults_at (position_at top k)) c.args.keys.now c.loop-key.key-index _
    (faults_of c.loop-key.found.items) (faults_of c.push_position.new.found.items) _
    (key_step top _ (drop (c.loop-key.key-index + 1) c.args.keys.now))
    c.loop-key-test.true c.in_ok-push_position.ensures.faults c.loop-key.invariant

pub returns : goal.returns
returns c =
    let top = table_view c.args.table.now in
    record {
      faults = listed_end (λ ks. all_faults (positions_at ks top)) c.args.keys.now
          c.loop-key.key-index (faults_of c.loop-key.found.items) _ (no_keys top)
          c.loop-key-test.false c.loop-key.invariant;
    }
