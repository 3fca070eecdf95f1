use Rattle.std.proofs.Common.{◌≡◌, ◌≤◌, ◌*◌, sum_by, take}
use Rattle.trdp_table.specs.Tables.{all_quotas}
use Rattle.trdp_table.specs.TableLaws.{object_limit}
use Rattle.trdp_table.proofs.table.total_room.Given as goal

abbrev pub invariant-loop-slot_quotas : goal.invariant-loop-slot_quotas
invariant-loop-slot_quotas l = record {
  sum : l.room ≡ sum_by all_quotas (take l.slot_quotas-index l.quotas);
  within : l.room ≤ l.slot_quotas-index * object_limit;
}
