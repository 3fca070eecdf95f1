use Rattle.std.proofs.Common.{◌≤◌, arith}
use Rattle.trdp_table.specs.Tables.{last_handle}
use Rattle.trdp_table.specs.Entries.{SlotEntries}
use Rattle.trdp_table.proofs.SlotLemmas.Kept.{IsKept-next}
use Rattle.trdp_table.proofs.slot.Slot.raise.Goals as goal

pub invariant_of-self : goal.invariant_of-self
invariant_of-self c =
    let slot : SlotEntries = record {
      quotas = c.self.inside.quotas;
      next = c.self.inside.next;
      entries = c.self.inside.entries.items;
    } in
    let le : c.args.next ≤ last_handle = omega (arith, c.ranges.next.fits) in
    rw (c.max-self-inside.ensures, c.from.ensures)
    (IsKept-next slot _ _ c.args.next le c.self.invariant)
