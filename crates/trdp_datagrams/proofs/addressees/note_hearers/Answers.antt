use Rattle.std.proofs.Common.{◌<◌, length, ap, ◌∙◌, arith}
use Rattle.std.proofs.lemmas.List.{length-append}
use Rattle.trdp_filter.specs.Telegrams.{telegram_model}
use Rattle.trdp_store.specs.TableSlots.{slots_of}
use Rattle.trdp_store.specs.Acting.{slot_at}
use Rattle.trdp_store.proofs.StoreLemmas.Slots.{slots_length, slot_there, rising}
use Rattle.trdp_model.specs.Datagrams.{hearing}
use Rattle.trdp_datagrams.specs.Sought.{noted_listener}
use Rattle.trdp_datagrams.proofs.CostLemmas.Telegrams.{meant_of-drop, heard_counted}
use Rattle.trdp_datagrams.proofs.NoteLemmas.Noted.{notes_all_next, notes_all_end_items}
use Rattle.trdp_datagrams.proofs.NoteLemmas.Noted.{notes_all_end_room}
use Rattle.trdp_datagrams.proofs.NoteLemmas.ListenersAlone.{noted_heard, room_heard}
use Rattle.trdp_datagrams.proofs.addressees.note_hearers.Goals as goal

pub note_listener-requires : goal.note_listener-requires
note_listener-requires c =
    let there : c.loop-s.s < length c.args.store.now =
    omega (arith, c.loop-s-test.true, c.slots-s-end.ensures.count) in
    let lt : c.loop-s.s < length (slots_of c.args.store.now) =
    omega (arith, there, slots_length c.args.store.now) in
    let left = meant_of-drop (telegram_model c.args.telegram.now)
    (slots_of c.args.store.now) (slot_at c.loop-s.s c.args.store.now)
    c.loop-s.s lt (slot_there c.args.store.now c.loop-s.s there) in
    let one = heard_counted (telegram_model c.args.telegram.now)
    c.args.globals.now c.args.store.now c.loop-s.s c.requires.unasked in
    rw (c.hearers-heard.ensures.heard c.loop-s.s there) (omega (
      arith,
      one,
      left,
      c.loop-s.invariant.few,
      c.loop-s.invariant.capacity,
      c.requires.capacity,
    ))

pub loop-s-preserved : goal.loop-s-preserved
loop-s-preserved c =
    let there : c.loop-s.s < length c.args.store.now =
    omega (arith, c.loop-s-test.true, c.slots-s-end.ensures.count) in
    let lt : c.loop-s.s < length (slots_of c.args.store.now) =
    omega (arith, there, slots_length c.args.store.now) in
    let heard = c.hearers-heard.ensures.heard c.loop-s.s there in
    let up = rising c.args.store.now c.loop-s.s c.sound.ensures.sound in
    let noted = rw heard at c.note_listener.ensures.noted in
    let room = rw heard at c.note_listener.ensures.room in
    let left = meant_of-drop (telegram_model c.args.telegram.now)
    (slots_of c.args.store.now) (slot_at c.loop-s.s c.args.store.now)
    c.loop-s.s lt (slot_there c.args.store.now c.loop-s.s there) in
    let one = heard_counted (telegram_model c.args.telegram.now)
    c.args.globals.now c.args.store.now c.loop-s.s c.requires.unasked in
    let more = ap length noted ∙ length-append c.loop-s.noted.items
    (noted_listener c.loop-s.s (hearing (telegram_model c.args.telegram.now)
    c.args.globals.now (slot_at c.loop-s.s c.args.store.now).objects)) in
    record {
      notes = rw c.plus-room.ensures (notes_all_next (telegram_model c.args.telegram.now)
          c.args.globals.now (slots_of c.args.store.now) (slot_at c.loop-s.s c.args.store.now)
          c.loop-s.noted.items c.note_listener.new.noted.items c.loop-s.room c.note_listener.result
          c.loop-s.s lt (slot_there c.args.store.now c.loop-s.s there) c.loop-s.invariant.notes
          (rw (noted_heard (telegram_model c.args.telegram.now) c.args.globals.now c.loop-s.s
          (slot_at c.loop-s.s c.args.store.now).objects c.requires.unasked up) at noted)
          (room ∙ room_heard (telegram_model c.args.telegram.now) c.args.globals.now
          (slot_at c.loop-s.s c.args.store.now).objects c.requires.unasked up));
      rows = rw c.plus-room.ensures
          (omega (arith, c.loop-s.invariant.rows, c.note_listener.ensures.rows));
      bytes = rw c.plus-room.ensures
          (omega (arith, c.loop-s.invariant.bytes, c.note_listener.ensures.bytes));
      capacity = c.note_listener.ensures.capacity ∙ c.loop-s.invariant.capacity;
      length = omega (arith, c.note_listener.ensures.length, c.loop-s.invariant.length);
      few = omega (arith, more, one, c.loop-s.invariant.few, left);
    }

pub returns-clause-noted : goal.returns-clause-noted
returns-clause-noted c =
    notes_all_end_items (telegram_model c.args.telegram.now)
    c.args.globals.now (slots_of c.args.store.now)
    c.loop-s.noted.items c.loop-s.room c.loop-s.s (omega (
      arith,
      c.loop-s-test.false,
      c.slots-s-end.ensures.count,
      slots_length c.args.store.now,
    )) c.loop-s.invariant.notes

pub returns-clause-room : goal.returns-clause-room
returns-clause-room c =
    notes_all_end_room (telegram_model c.args.telegram.now)
    c.args.globals.now (slots_of c.args.store.now)
    c.loop-s.noted.items c.loop-s.room c.loop-s.s (omega (
      arith,
      c.loop-s-test.false,
      c.slots-s-end.ensures.count,
      slots_length c.args.store.now,
    )) c.loop-s.invariant.notes

pub returns-clause-few : goal.returns-clause-few
returns-clause-few c = omega (arith, c.loop-s.invariant.few)
