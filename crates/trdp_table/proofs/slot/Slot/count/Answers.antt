use Rattle.std.proofs.Common.{arith}
use Rattle.trdp_table.specs.Entries.{SlotEntries}
use Rattle.trdp_table.proofs.SlotLemmas.Kept.{few_objects}
use Rattle.trdp_table.proofs.slot.Slot.count.Goals as goal

pub returns-clause-within : goal.returns-clause-within
returns-clause-within c =
    let slot : SlotEntries = record {
      quotas = c.self.inside.quotas;
      next = c.self.inside.next;
      entries = c.self.inside.entries.items;
    } in
    omega (arith, few_objects slot c.self.invariant.sound)
