use Rattle.std.proofs.Common.{◌+◌, drop, map}
use Rattle.trdp_dataset.specs.Findings.{faults_of}
use Rattle.trdp_dataset.specs.Misfits.{row_seen, rows_seen, row_dataset, twice_at, twices}
use Rattle.trdp_dataset.proofs.ListedLemmas.{listed_turn}
use Rattle.trdp_dataset.proofs.MisfitLemmas.{firsts_turn, twices_step}
use Rattle.trdp_dataset.proofs.misfit.push_twice.Goals as goal

pub loop-row-preserved : goal.loop-row-preserved
loop-row-preserved c =
    let rows = c.args.rows.now in
    let i = c.loop-row.row-index in
    let row = c.row-item.result in
    let old = c.loop-row.known in
    let now = c.push_if_twice.new.known in
    record {
      known = firsts_turn row_dataset rows i row old now _ c.loop-row-test.true c.row-item.is
          c.in_ok-push_if_twice.ensures.known c.loop-row.invariant.known;
      faults = listed_turn (λ rs. twices old (map row_dataset (rows_seen rs)))
          (λ rs. twices now (map row_dataset (rows_seen rs))) rows i row
          (twice_at old (row_dataset (row_seen row))) (faults_of c.loop-row.found.items)
          (faults_of c.push_if_twice.new.found.items) _
          (twices_step row_dataset row (drop (i + 1) rows) old now
          c.in_ok-push_if_twice.ensures.known) c.loop-row-test.true c.row-item.is
          c.in_ok-push_if_twice.ensures.faults c.loop-row.invariant.faults;
    }
