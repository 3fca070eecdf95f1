use Rattle.std.proofs.Common.{arith}
use Rattle.std.proofs.lemmas.Grind.{common_steps}
use Rattle.trdp_model.specs.Kinds.{kind_of}
use Rattle.trdp_table.proofs.TableLemmas.Known.{within_slots, granted}
use Rattle.trdp_table.proofs.TableLemmas.Found.{slot_read}
use Rattle.trdp_table.proofs.TableLemmas.Kept.{pool_room, IsKeptTable-add}
use Rattle.trdp_table.proofs.TableLemmas.SeenChanges.{adds}
use Rattle.trdp_table.proofs.table.Table.install.Goals as goal

pub insert-key-requires : goal.insert-key-requires
insert-key-requires c =
    let slots = c.self.inside.slots.items in
    let pool = c.self.inside.pool in
    let lt = within_slots slots pool c.args.self.now c.args.slot c.self.view_is c.requires.slot in
    let none = granted slots pool c.args.self.now
    c.args.slot (kind_of c.args.object) c.self.view_is c.requires.granted in
    pool_room slots pool c.args.slot (kind_of c.args.object) c.self.invariant lt none

pub invariant_of-self : goal.invariant_of-self
invariant_of-self c =
    let slots = c.self.inside.slots.items in
    let pool = c.self.inside.pool in
    let lt = within_slots slots pool c.args.self.now c.args.slot c.self.view_is c.requires.slot in
    let none = granted slots pool c.args.self.now
    c.args.slot (kind_of c.args.object) c.self.view_is c.requires.granted in
    let row =
    slot_read slots c.args.slot c.index.result.now lt (rw c.from.ensures at c.index.ensures) in
    let row_then = slot_read slots c.args.slot
    c.index_mut.result.now lt (rw c.from-2.ensures at c.index_mut.ensures.value) in
    rw (
      c.insert-key.ensures.pool,
      c.from-2.ensures,
      c.add.ensures,
      ← row_then,
      c.next_handle-handle.ensures,
      ← row,
      c.of-kind.ensures,
    )
    (IsKeptTable-add slots pool c.args.slot c.insert-key.result c.args.object
    c.self.invariant lt none c.insert-key.ensures.within c.insert-key.ensures.vacant)

pub returns-clause-added : goal.returns-clause-added
returns-clause-added c =
    let slots = c.self.inside.slots.items in
    let pool = c.self.inside.pool in
    let lt = within_slots slots pool c.args.self.now c.args.slot c.self.view_is c.requires.slot in
    let none = granted slots pool c.args.self.now
    c.args.slot (kind_of c.args.object) c.self.view_is c.requires.granted in
    let row =
    slot_read slots c.args.slot c.index.result.now lt (rw c.from.ensures at c.index.ensures) in
    let row_then = slot_read slots c.args.slot
    c.index_mut.result.now lt (rw c.from-2.ensures at c.index_mut.ensures.value) in
    rw (
      ← c.self.view_is,
      c.insert-key.ensures.pool,
      c.from-2.ensures,
      c.add.ensures,
      ← row_then,
      c.next_handle-handle.ensures,
      ← row,
      c.of-kind.ensures,
    )
    (adds slots pool c.args.slot c.insert-key.result
    c.args.object c.self.invariant c.insert-key.ensures.within c.insert-key.ensures.vacant)

pub returns-clause-handle : goal.returns-clause-handle
returns-clause-handle c = grind (arith, common_steps)
