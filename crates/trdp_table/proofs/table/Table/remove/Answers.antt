use Rattle.std.proofs.Common.{◌≡◌, ◌∙◌, Some, None, sym}
use Rattle.trdp_table.specs.Entries.{entries_in, key_of}
use Rattle.trdp_table.proofs.TableLemmas.Known.{within_slots}
use Rattle.trdp_table.proofs.TableLemmas.Found.{slot_read}
use Rattle.trdp_table.proofs.TableLemmas.Kept.{found_is_held}
use Rattle.trdp_table.proofs.TableLemmas.SeenChanges.{same_slots, nothing_found, gone_seen}
use Rattle.trdp_table.proofs.TableLemmas.Kept.{IsKeptTable-remove}
use Rattle.trdp_table.proofs.TableLemmas.SeenChanges.{found_object, remove_seen}
use Rattle.trdp_table.proofs.table.Table.remove.Goals as goal

pub invariant_of-self : goal.invariant_of-self
invariant_of-self c =
    let slots = c.self.inside.slots.items in
    let pool = c.self.inside.pool in
    let lt = within_slots slots pool c.args.self.now c.args.slot c.self.view_is c.requires in
    let row = slot_read slots c.args.slot c.index_mut.result.now
    lt (rw c.from.ensures at c.index_mut.ensures.value) in
    let none : key_of c.args.handle (entries_in c.args.slot slots).entries ≡ None =
    rw row (sym c.remove.ensures.key ∙ c.in_err-key.was) in
    rw (
      c.from.ensures,
      c.remove.ensures.slot,
      ← row,
      same_slots slots c.args.slot c.args.handle lt none,
    ) c.self.invariant

pub returns-in_err-key-clause-object : goal.returns-in_err-key-clause-object
returns-in_err-key-clause-object c =
    let slots = c.self.inside.slots.items in
    let pool = c.self.inside.pool in
    let lt = within_slots slots pool c.args.self.now c.args.slot c.self.view_is c.requires in
    let row = slot_read slots c.args.slot c.index_mut.result.now
    lt (rw c.from.ensures at c.index_mut.ensures.value) in
    let none : key_of c.args.handle (entries_in c.args.slot slots).entries ≡ None =
    rw row (sym c.remove.ensures.key ∙ c.in_err-key.was) in
    rw (← c.self.view_is, nothing_found slots pool c.args.slot c.args.handle none)
    c.from_residual.ensures

pub returns-in_err-key-clause-table : goal.returns-in_err-key-clause-table
returns-in_err-key-clause-table c =
    let slots = c.self.inside.slots.items in
    let pool = c.self.inside.pool in
    let lt = within_slots slots pool c.args.self.now c.args.slot c.self.view_is c.requires in
    let row = slot_read slots c.args.slot c.index_mut.result.now
    lt (rw c.from.ensures at c.index_mut.ensures.value) in
    rw (← c.self.view_is, c.from.ensures, c.remove.ensures.slot, ← row)
    (gone_seen slots pool c.args.slot c.args.handle)

pub remove-held-requires : goal.remove-held-requires
remove-held-requires c =
    let slots = c.self.inside.slots.items in
    let pool = c.self.inside.pool in
    let lt = within_slots slots pool c.args.self.now c.args.slot c.self.view_is c.requires in
    let row = slot_read slots c.args.slot c.index_mut.result.now
    lt (rw c.from.ensures at c.index_mut.ensures.value) in
    let found : key_of c.args.handle (entries_in c.args.slot slots).entries ≡ Some c.in_ok-key.key =
    rw row (sym c.remove.ensures.key ∙ c.in_ok-key.was) in
    found_is_held slots pool c.args.slot c.args.handle c.in_ok-key.key c.self.invariant found

pub invariant_of-self-2 : goal.invariant_of-self-2
invariant_of-self-2 c =
    let slots = c.self.inside.slots.items in
    let pool = c.self.inside.pool in
    let lt = within_slots slots pool c.args.self.now c.args.slot c.self.view_is c.requires in
    let row = slot_read slots c.args.slot c.index_mut.result.now
    lt (rw c.from.ensures at c.index_mut.ensures.value) in
    let found : key_of c.args.handle (entries_in c.args.slot slots).entries ≡ Some c.in_ok-key.key =
    rw row (sym c.remove.ensures.key ∙ c.in_ok-key.was) in
    rw (c.remove-held.ensures.pool, c.from.ensures, c.remove.ensures.slot, ← row)
    (IsKeptTable-remove slots pool c.args.slot
    c.args.handle c.in_ok-key.key c.self.invariant lt found)

pub returns-clause-object : goal.returns-clause-object
returns-clause-object c =
    let slots = c.self.inside.slots.items in
    let pool = c.self.inside.pool in
    let lt = within_slots slots pool c.args.self.now c.args.slot c.self.view_is c.requires in
    let row = slot_read slots c.args.slot c.index_mut.result.now
    lt (rw c.from.ensures at c.index_mut.ensures.value) in
    let found : key_of c.args.handle (entries_in c.args.slot slots).entries ≡ Some c.in_ok-key.key =
    rw row (sym c.remove.ensures.key ∙ c.in_ok-key.was) in
    rw (← c.self.view_is) (sym (found_object slots pool c.args.slot
    c.args.handle c.in_ok-key.key c.remove-held.result found c.remove-held.ensures.held))

pub returns-clause-table : goal.returns-clause-table
returns-clause-table c =
    let slots = c.self.inside.slots.items in
    let pool = c.self.inside.pool in
    let lt = within_slots slots pool c.args.self.now c.args.slot c.self.view_is c.requires in
    let row = slot_read slots c.args.slot c.index_mut.result.now
    lt (rw c.from.ensures at c.index_mut.ensures.value) in
    let found : key_of c.args.handle (entries_in c.args.slot slots).entries ≡ Some c.in_ok-key.key =
    rw row (sym c.remove.ensures.key ∙ c.in_ok-key.was) in
    rw (← c.self.view_is, c.remove-held.ensures.pool, c.from.ensures, c.remove.ensures.slot, ← row)
    (remove_seen slots pool c.args.slot c.args.handle c.in_ok-key.key c.self.invariant found)
