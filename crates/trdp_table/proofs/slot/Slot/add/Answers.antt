use Rattle.std.proofs.Common.{arith}
use Rattle.trdp_table.specs.Entries.{SlotEntries}
use Rattle.trdp_table.proofs.SlotLemmas.Kept.{has_room, IsKept-add}
use Rattle.trdp_table.proofs.slot.Slot.add.Goals as goal

pub push_reserved-requires : goal.push_reserved-requires
push_reserved-requires c =
    let slot : SlotEntries = record {
      quotas = c.self.inside.quotas;
      next = c.self.inside.next;
      entries = c.self.inside.entries.items;
    } in
    omega (
      arith,
      has_room slot _ _ c.args.kind c.self.invariant (rw (← c.self.view_is) at c.requires),
    )

pub invariant_of-self : goal.invariant_of-self
invariant_of-self c =
    let slot : SlotEntries = record {
      quotas = c.self.inside.quotas;
      next = c.self.inside.next;
      entries = c.self.inside.entries.items;
    } in
    rw (
      c.push_reserved.ensures.items,
      c.push_reserved.ensures.capacity,
      c.next_handle-handle.ensures,
      ← c.self.view_is,
    )
    (IsKept-add slot _ _ _ c.args.key c.args.kind
    c.self.invariant (rw (← c.self.view_is) at c.requires) c.add.ensures)
