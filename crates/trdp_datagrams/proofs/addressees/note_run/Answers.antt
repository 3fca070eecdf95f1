use Rattle.std.proofs.Common.{◌≡◌, ◌<◌, length, get_or, Some, None, ◌∙◌, sym, arith}
use Rattle.std.specs.Prelude.{slice_get}
use Rattle.trdp_index.specs.declared.com_row.ComRow.{ComRow}
use Rattle.trdp_filter.specs.Telegrams.{telegram_model}
use Rattle.std.proofs.lemmas.Option.{slice_get-get_or}
use Rattle.trdp_model.specs.Kinds.{kind_of}
use Rattle.trdp_store.proofs.OrderLemmas.Rooms.{kind_rows, kind_bytes}
use Rattle.trdp_datagrams.proofs.NoteLemmas.ByCom.{hit_gone, hit_not, hit_one}
use Rattle.trdp_datagrams.proofs.NoteLemmas.ByCom.{run_next, run_past, run_end_items, run_end_room}
use Rattle.trdp_datagrams.proofs.addressees.note_run.Goals as goal
use Rattle.trdp_datagrams.proofs.addressees.note_run.Goals.{in-Some+then-addressed}
use Rattle.trdp_datagrams.proofs.addressees.note_run.Goals.{in-Some+else-addressed, in_default}

pub loop-row-preserved : goal.loop-row-preserved
loop-row-preserved c =
    let rows = c.run-rows.result.now in
    let i = c.loop-row.row-index in
    let lt : i < length rows = c.loop-row-test.true in
    let first : ComRow = record { com_id = None; slot = 0; handle = 0; key = 0 } in
    let row : ComRow = get_or rows i first in
    let there : slice_get rows i ≡ Some row = slice_get-get_or {X = ComRow} rows i first lt in
    elim c.match-get.branch [
      | in-Some+then-addressed w ↦
          let one = hit_one (telegram_model c.args.telegram.now) c.args.globals.now
          c.args.store.now row w.in-Some.object.now w.in-Some.ensures
          (sym w.addressed.ensures ∙ w.if-addressed.true) in
          let noted = rw (w.new.ensures, ← one.noted) at w.push_reserved.ensures.items in
          let own_rows = kind_rows (kind_of w.in-Some.object.now) in
          let own_bytes = kind_bytes (kind_of w.in-Some.object.now) in
          rw (w.noted-is, w.counts-is, w.room-is) (record {
            notes = rw w.plus-room.ensures (run_next (telegram_model c.args.telegram.now)
                c.args.globals.now c.args.store.now rows row c.args.noted.now.items
                c.loop-row.noted.items w.push_reserved.new.self.items c.loop-row.room
                w.of.result i lt there c.loop-row.invariant.notes noted
                (w.of.ensures ∙ sym one.room));
            rows = rw (w.plus-room.ensures, w.of.ensures)
                (omega (arith, c.loop-row.invariant.rows, own_rows));
            bytes = rw (w.plus-room.ensures, w.of.ensures)
                (omega (arith, c.loop-row.invariant.bytes, own_bytes));
            capacity = w.push_reserved.ensures.capacity ∙ c.loop-row.invariant.capacity;
            length = omega (arith, w.push_reserved.ensures.len, c.loop-row.invariant.length);
            comparisons = w.tested.ensures.comparisons ∙ c.loop-row.invariant.comparisons;
            tests = omega (arith, w.tested.ensures.tests, c.loop-row.invariant.tests);
            look_ups = w.tested.ensures.look_ups ∙ c.loop-row.invariant.look_ups;
          })
      | in-Some+else-addressed w ↦
          let none = hit_not (telegram_model c.args.telegram.now) c.args.globals.now
          c.args.store.now row w.in-Some.object.now w.in-Some.ensures
          (sym w.addressed.ensures ∙ w.if-addressed.false) in
          rw (w.noted-is, w.counts-is, w.room-is) (record {
            notes = run_past (telegram_model c.args.telegram.now) c.args.globals.now
                c.args.store.now rows row c.args.noted.now.items c.loop-row.noted.items
                c.loop-row.room i lt there c.loop-row.invariant.notes
                none;
            rows = omega (arith, c.loop-row.invariant.rows);
            bytes = omega (arith, c.loop-row.invariant.bytes);
            capacity = c.loop-row.invariant.capacity;
            length = omega (arith, c.loop-row.invariant.length);
            comparisons = w.tested.ensures.comparisons ∙ c.loop-row.invariant.comparisons;
            tests = omega (arith, w.tested.ensures.tests, c.loop-row.invariant.tests);
            look_ups = w.tested.ensures.look_ups ∙ c.loop-row.invariant.look_ups;
          })
      | in_default w ↦
          let none = hit_gone (telegram_model c.args.telegram.now) c.args.globals.now
          c.args.store.now row w.in_default.ensures in
          rw (w.noted-is, w.counts-is, w.room-is) (record {
            notes = run_past (telegram_model c.args.telegram.now) c.args.globals.now
                c.args.store.now rows row c.args.noted.now.items c.loop-row.noted.items
                c.loop-row.room i lt there c.loop-row.invariant.notes
                none;
            rows = omega (arith, c.loop-row.invariant.rows);
            bytes = omega (arith, c.loop-row.invariant.bytes);
            capacity = c.loop-row.invariant.capacity;
            length = omega (arith, c.loop-row.invariant.length);
            comparisons = c.loop-row.invariant.comparisons;
            tests = omega (arith, c.loop-row.invariant.tests);
            look_ups = c.loop-row.invariant.look_ups;
          })
    ]

pub returns-clause-noted : goal.returns-clause-noted
returns-clause-noted c =
    rw (← c.run-rows.ensures.rows)
    (run_end_items (telegram_model c.args.telegram.now) c.args.globals.now c.args.store.now
    c.run-rows.result.now c.args.noted.now.items c.loop-row.noted.items c.loop-row.room
    c.loop-row.row-index (omega (arith, c.loop-row-test.false)) c.loop-row.invariant.notes)

pub returns-clause-room : goal.returns-clause-room
returns-clause-room c =
    rw (← c.run-rows.ensures.rows)
    (run_end_room (telegram_model c.args.telegram.now) c.args.globals.now c.args.store.now
    c.run-rows.result.now c.args.noted.now.items c.loop-row.noted.items c.loop-row.room
    c.loop-row.row-index (omega (arith, c.loop-row-test.false)) c.loop-row.invariant.notes)

pub returns-clause-few : goal.returns-clause-few
returns-clause-few c = rw (← c.run-rows.ensures.rows) (omega (arith, c.loop-row.invariant.length))

pub returns-clause-comparisons : goal.returns-clause-comparisons
returns-clause-comparisons c = λ b lt.
    omega (
      arith,
      c.compared.ensures.comparisons,
      c.loop-row.invariant.comparisons,
      c.run-rows.ensures.cost b lt,
    )

pub returns-clause-tests : goal.returns-clause-tests
returns-clause-tests c =
    rw (← c.run-rows.ensures.rows)
    (omega (arith, c.compared.ensures.tests, c.loop-row.invariant.tests))

pub push_reserved-requires : goal.push_reserved-requires
push_reserved-requires c =
    let room = rw (← c.run-rows.ensures.rows) at c.requires.capacity in
    omega (
      arith,
      room,
      c.loop-row.invariant.length,
      c.loop-row.invariant.capacity,
      c.loop-row-test.true,
    )
