use Rattle.std.proofs.Common.{◌<◌, length, ◌∙◌, arith}
use Rattle.trdp_filter.specs.Telegrams.{telegram_model}
use Rattle.trdp_store.specs.TableSlots.{slots_of}
use Rattle.trdp_store.specs.Acting.{slot_at}
use Rattle.trdp_store.proofs.StoreLemmas.Slots.{slots_length, slot_there}
use Rattle.trdp_datagrams.proofs.CostLemmas.Telegrams.{meant_of-drop}
use Rattle.trdp_datagrams.proofs.NoteLemmas.Noted.{notes_all_next, notes_all_end_items}
use Rattle.trdp_datagrams.proofs.NoteLemmas.Noted.{notes_all_end_room}
use Rattle.trdp_datagrams.proofs.addressees.note_parts.Goals as goal

pub note_part-own-requires-clause-capacity : goal.note_part-own-requires-clause-capacity
note_part-own-requires-clause-capacity c =
    let there : c.loop-s.s < length c.args.store.now =
    omega (arith, c.loop-s-test.true, c.slots-s-end.ensures.count) in
    let lt : c.loop-s.s < length (slots_of c.args.store.now) =
    omega (arith, there, slots_length c.args.store.now) in
    let left = meant_of-drop (telegram_model c.args.awaited.now.telegram.now)
    (slots_of c.args.store.now) (slot_at c.loop-s.s c.args.store.now)
    c.loop-s.s lt (slot_there c.args.store.now c.loop-s.s there) in
    omega (
      arith,
      left,
      c.loop-s.invariant.few,
      c.loop-s.invariant.capacity,
      c.requires.capacity,
    )

pub loop-s-preserved : goal.loop-s-preserved
loop-s-preserved c =
    let there : c.loop-s.s < length c.args.store.now =
    omega (arith, c.loop-s-test.true, c.slots-s-end.ensures.count) in
    let lt : c.loop-s.s < length (slots_of c.args.store.now) =
    omega (arith, there, slots_length c.args.store.now) in
    let left = meant_of-drop (telegram_model c.args.awaited.now.telegram.now)
    (slots_of c.args.store.now) (slot_at c.loop-s.s c.args.store.now)
    c.loop-s.s lt (slot_there c.args.store.now c.loop-s.s there) in
    record {
      notes = rw c.plus-room.ensures
          (notes_all_next (telegram_model c.args.awaited.now.telegram.now)
          c.args.awaited.now.globals.now (slots_of c.args.store.now)
          (slot_at c.loop-s.s c.args.store.now)
          c.loop-s.noted.items c.note_part-own.new.noted.items c.loop-s.room
          c.note_part-own.result c.loop-s.s lt (slot_there c.args.store.now c.loop-s.s there)
          c.loop-s.invariant.notes c.note_part-own.ensures.noted c.note_part-own.ensures.room);
      rows = rw c.plus-room.ensures
          (omega (arith, c.loop-s.invariant.rows, c.note_part-own.ensures.rows));
      bytes = rw c.plus-room.ensures
          (omega (arith, c.loop-s.invariant.bytes, c.note_part-own.ensures.bytes));
      capacity = c.note_part-own.ensures.capacity ∙ c.loop-s.invariant.capacity;
      length = omega (arith, c.note_part-own.ensures.length, c.loop-s.invariant.length);
      comparisons = c.note_part-own.ensures.comparisons ∙ c.loop-s.invariant.comparisons;
      tests = omega (arith, c.note_part-own.ensures.tests, c.loop-s.invariant.tests, left);
      look_ups = omega (arith, c.note_part-own.ensures.look_ups, c.loop-s.invariant.look_ups);
      few = omega (arith, c.note_part-own.ensures.few, c.loop-s.invariant.few, left);
    }

pub returns-clause-noted : goal.returns-clause-noted
returns-clause-noted c =
    notes_all_end_items (telegram_model c.args.awaited.now.telegram.now)
    c.args.awaited.now.globals.now (slots_of c.args.store.now)
    c.loop-s.noted.items c.loop-s.room c.loop-s.s (omega (
      arith,
      c.loop-s-test.false,
      c.slots-s-end.ensures.count,
      slots_length c.args.store.now,
    )) c.loop-s.invariant.notes

pub returns-clause-room : goal.returns-clause-room
returns-clause-room c =
    notes_all_end_room (telegram_model c.args.awaited.now.telegram.now)
    c.args.awaited.now.globals.now (slots_of c.args.store.now)
    c.loop-s.noted.items c.loop-s.room c.loop-s.s (omega (
      arith,
      c.loop-s-test.false,
      c.slots-s-end.ensures.count,
      slots_length c.args.store.now,
    )) c.loop-s.invariant.notes

pub returns-clause-few : goal.returns-clause-few
returns-clause-few c = omega (arith, c.loop-s.invariant.few)

pub returns-clause-tests : goal.returns-clause-tests
returns-clause-tests c = omega (arith, c.loop-s.invariant.tests)

pub returns-clause-look_ups : goal.returns-clause-look_ups
returns-clause-look_ups c = omega (arith, c.loop-s.invariant.look_ups, c.slots-s-end.ensures.count)
