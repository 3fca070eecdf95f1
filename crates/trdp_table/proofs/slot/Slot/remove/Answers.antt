use Rattle.std.proofs.Common.{List, refl, ap}
use Rattle.trdp_table.specs.declared.entry.Entry.{Entry}
use Rattle.trdp_table.specs.Entries.{SlotEntries}
use Rattle.trdp_table.proofs.SlotLemmas.Kept.{same_without, gone, some_of_kind, IsKept-remove}
use Rattle.trdp_table.proofs.slot.Slot.remove.Goals as goal

pub returns-in_err-index-clause-slot : goal.returns-in_err-index-clause-slot
returns-in_err-index-clause-slot c =
    same_without c.args.handle c.args.self.now (c.index_of.ensures.absent c.in_err-index.was)

pub remove-requires : goal.remove-requires
remove-requires c =
    let slot : SlotEntries = record {
      quotas = c.self.inside.quotas;
      next = c.self.inside.next;
      entries = c.self.inside.entries.items;
    } in
    let out = gone c.args.handle c.in_ok-index.index
    slot.entries c.remove-entry.result c.self.invariant.sound.rising
    (rw (← c.self.view_is) at c.in_ok-index.ensures.found) c.remove-entry.ensures.value in
    some_of_kind slot _ _ _ _ c.remove-entry.result c.self.invariant out

pub invariant_of-self : goal.invariant_of-self
invariant_of-self c =
    let slot : SlotEntries = record {
      quotas = c.self.inside.quotas;
      next = c.self.inside.next;
      entries = c.self.inside.entries.items;
    } in
    let out = gone c.args.handle c.in_ok-index.index
    slot.entries c.remove-entry.result c.self.invariant.sound.rising
    (rw (← c.self.view_is) at c.in_ok-index.ensures.found) c.remove-entry.ensures.value in
    rw (c.remove-entry.ensures.items, c.remove-entry.ensures.capacity, out.rest)
    (IsKept-remove slot _ _ _ _ _ c.remove-entry.result c.self.invariant out c.remove.ensures)

pub returns-clause-key : goal.returns-clause-key
returns-clause-key c =
    let slot : SlotEntries = record {
      quotas = c.self.inside.quotas;
      next = c.self.inside.next;
      entries = c.self.inside.entries.items;
    } in
    let out = gone c.args.handle c.in_ok-index.index
    slot.entries c.remove-entry.result c.self.invariant.sound.rising
    (rw (← c.self.view_is) at c.in_ok-index.ensures.found) c.remove-entry.ensures.value in
    rw (← c.self.view_is, out.found) refl

pub returns-clause-slot : goal.returns-clause-slot
returns-clause-slot c =
    let slot : SlotEntries = record {
      quotas = c.self.inside.quotas;
      next = c.self.inside.next;
      entries = c.self.inside.entries.items;
    } in
    let out = gone c.args.handle c.in_ok-index.index
    slot.entries c.remove-entry.result c.self.invariant.sound.rising
    (rw (← c.self.view_is) at c.in_ok-index.ensures.found) c.remove-entry.ensures.value in
    rw (← c.self.view_is, c.remove-entry.ensures.items)
    (ap (λ (es : List Entry). record slot { entries = es }) out.rest)
