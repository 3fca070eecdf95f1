use Rattle.std.proofs.Common.{◌≡◌, ◌<◌, ◌∙◌, Some, None, get_or, length, arith}
use Rattle.trdp_filter.specs.Telegrams.{telegram_model}
use Rattle.std.specs.Prelude.{slice_get}
use Rattle.std.proofs.lemmas.Option.{slice_get-get_or}
use Rattle.trdp_index.specs.declared.com_row.ComRow.{ComRow}
use Rattle.trdp_store.specs.Indexed.{rows_from}
use Rattle.trdp_datagrams.proofs.NoteLemmas.HeardByRuns.{row_slot, hears_next, hears_end}
use Rattle.trdp_datagrams.proofs.first_listeners.hear_run.Goals as goal

pub hear_row-requires-clause-slot : goal.hear_row-requires-clause-slot
hear_row-requires-clause-slot c =
    let lt : c.loop-row.row-index < length c.run-rows.result.now = c.loop-row-test.true in
    let none : ComRow = record { com_id = None; slot = 0; handle = 0; key = 0 } in
    let read : slice_get c.run-rows.result.now c.loop-row.row-index
    ≡ Some (get_or c.run-rows.result.now c.loop-row.row-index none) =
    slice_get-get_or {X = ComRow} c.run-rows.result.now c.loop-row.row-index none lt in
    let there = rw c.run-rows.ensures.rows at read in
    let below = row_slot 0 c.args.com_id c.args.store.now c.loop-row.row-index
    (get_or (rows_from 0 c.args.com_id c.args.store.now) c.loop-row.row-index none) there in
    rw c.run-rows.ensures.rows (omega (arith, below, c.sound.ensures.sound.few))

pub loop-row-preserved : goal.loop-row-preserved
loop-row-preserved c =
    let lt : c.loop-row.row-index < length c.run-rows.result.now = c.loop-row-test.true in
    record {
      heard = hears_next (telegram_model c.args.telegram.now) c.args.globals.now c.args.store.now
          c.run-rows.result.now _ c.args.heard.now c.loop-row.heard c.hear_row.new.heard
          c.loop-row.row-index lt (slice_get-get_or c.run-rows.result.now c.loop-row.row-index _ lt)
          c.loop-row.invariant.heard c.hear_row.ensures.heard;
      length = c.hear_row.ensures.length;
      comparisons = c.hear_row.ensures.comparisons ∙ c.loop-row.invariant.comparisons;
      tests = omega (arith, c.hear_row.ensures.tests, c.loop-row.invariant.tests);
      look_ups = c.hear_row.ensures.look_ups ∙ c.loop-row.invariant.look_ups;
    }

pub returns-clause-heard : goal.returns-clause-heard
returns-clause-heard c = λ s.
    rw (← c.run-rows.ensures.rows)
    (hears_end (telegram_model c.args.telegram.now)
    c.args.globals.now c.args.store.now c.run-rows.result.now c.args.heard.now c.loop-row.heard
    c.loop-row.row-index (omega (arith, c.loop-row-test.false)) c.loop-row.invariant.heard s)

pub returns-clause-comparisons : goal.returns-clause-comparisons
returns-clause-comparisons c = λ b lt.
    omega (
      arith,
      c.compared.ensures.comparisons,
      c.loop-row.invariant.comparisons,
      c.run-rows.ensures.cost b lt,
    )

pub returns-clause-tests : goal.returns-clause-tests
returns-clause-tests c =
    rw (← c.run-rows.ensures.rows)
    (omega (arith, c.compared.ensures.tests, c.loop-row.invariant.tests))
