use Rattle.std.proofs.Common.{◌≡◌, ◌≤◌, length, map, take, vec_capacity, All}
use Rattle.trdp_table.specs.Entries.{opened_entries}
use Rattle.trdp_table.specs.TableLaws.{AreLimited}
use Rattle.trdp_table.proofs.table.opened.Given as goal

abbrev pub invariant-loop-slot_quotas : goal.invariant-loop-slot_quotas
invariant-loop-slot_quotas l = record {
  items : l.slots.items ≡ map opened_entries (take l.slot_quotas-index l.quotas);
  limited : All AreLimited (take l.slot_quotas-index l.quotas);
  room : length l.quotas ≤ vec_capacity l.slots;
}
