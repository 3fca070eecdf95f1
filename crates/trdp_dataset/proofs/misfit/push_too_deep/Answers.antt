use Rattle.std.proofs.Common.{flat_map, refl}
use Rattle.trdp_dataset.specs.Findings.{faults_of}
use Rattle.trdp_dataset.specs.Misfits.{row_seen, rows_seen, deep_of}
use Rattle.trdp_dataset.proofs.ListedLemmas.{listed_turn, listed_end}
use Rattle.trdp_dataset.proofs.misfit.push_too_deep.Goals as goal

pub loop-row-preserved : goal.loop-row-preserved
loop-row-preserved c =
    let here = deep_of c.args.known.now c.args.sound.now in
    listed_turn (λ rows. flat_map here (rows_seen rows)) (λ rows. flat_map here (rows_seen rows))
    c.args.rows.now c.loop-row.row-index c.row-item.result (here (row_seen c.row-item.result))
    (faults_of c.loop-row.found.items) (faults_of c.push_if_deep.new.found.items) _ refl
    c.loop-row-test.true c.row-item.is c.in_ok-push_if_deep.ensures.faults c.loop-row.invariant

pub returns : goal.returns
returns c =
    let here = deep_of c.args.known.now c.args.sound.now in
    record {
      faults = listed_end (λ rows. flat_map here (rows_seen rows)) c.args.rows.now
          c.loop-row.row-index (faults_of c.loop-row.found.items) _ refl c.loop-row-test.false
          c.loop-row.invariant;
    }
