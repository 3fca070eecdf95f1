use Rattle.std.proofs.Common.{rules, ◌<◌, ◌∙◌, length, ap, arith}
use Rattle.std.proofs.lemmas.Grind.{common_steps}
use Rattle.trdp_model.specs.Slots.{slot_limit}
use Rattle.trdp_table.specs.Tables.{room_of}
use Rattle.trdp_table.specs.TableKept.{table_seen}
use Rattle.trdp_table.proofs.TableLemmas.Opened.{IsKeptTable-opened, slot_opened, room_opened}
use Rattle.trdp_table.proofs.table.Table.add_slot.Goals as goal

pub invariant_of-self-2 : goal.invariant_of-self-2
invariant_of-self-2 c =
    let slots = c.self.inside.slots.items in
    let pool = c.self.inside.pool in
    let few : length slots < slot_limit = search rules in
    rw (
      c.push_reserved.ensures.items,
      c.reserve_exact.ensures.items,
      c.in_ok-slot.ensures.slot,
      c.in_ok-grow.ensures.ok,
      c.room_of.ensures.room,
    )
    (IsKeptTable-opened slots pool c.args.quotas c.self.invariant few c.in_ok-slot.ensures.limited)

pub returns-clause-added : goal.returns-clause-added
returns-clause-added c =
    rw (
      ← c.self.view_is,
      c.push_reserved.ensures.items,
      c.reserve_exact.ensures.items,
      c.in_ok-slot.ensures.slot,
      c.in_ok-grow.ensures.ok,
      c.room_of.ensures.room,
    )
    (slot_opened c.self.inside.slots.items c.self.inside.pool c.args.quotas)

pub returns-clause-room : goal.returns-clause-room
returns-clause-room c =
    rw (
      ← c.self.view_is,
      c.push_reserved.ensures.items,
      c.reserve_exact.ensures.items,
      c.in_ok-slot.ensures.slot,
      c.in_ok-grow.ensures.ok,
      c.room_of.ensures.room,
    )
    (ap room_of (slot_opened c.self.inside.slots.items c.self.inside.pool c.args.quotas)
    ∙ room_opened (table_seen c.self.inside.pool c.self.inside.slots.items) c.args.quotas)

pub returns-in_err-reserve_exact-clause-full : goal.returns-in_err-reserve_exact-clause-full
returns-in_err-reserve_exact-clause-full c = grind (arith, common_steps)

pub returns-in_err-slot-clause-full : goal.returns-in_err-slot-clause-full
returns-in_err-slot-clause-full c = grind (arith, common_steps)

pub returns-in_err-grow-clause-full : goal.returns-in_err-grow-clause-full
returns-in_err-grow-clause-full c = grind (arith, common_steps)

pub returns-clause-full : goal.returns-clause-full
returns-clause-full c = grind (arith, common_steps)
