use Rattle.std.proofs.Common.{◌≡◌, ◌++◌, drop}
use Rattle.toml.specs.View.{table_view}
use Rattle.trdp_dataset.specs.declared.key.Key.TheVariants.{Slot}
use Rattle.trdp_dataset.specs.Keys.{slot_keys}
use Rattle.trdp_dataset.specs.Positions.{positions_of_all, tables_at}
use Rattle.trdp_dataset.specs.Seen.{tables_seen}
use Rattle.trdp_dataset.specs.Findings.{faults_of, all_faults}
use Rattle.trdp_dataset.proofs.find.push_slot_tables.Given as goal

abbrev pub invariant-loop-slot : goal.invariant-loop-slot
invariant-loop-slot l = faults_of l.found.items
    ++ all_faults (positions_of_all slot_keys (tables_seen (drop l.slot l.members)))
    ≡ faults_of l.fn.found.items
    ++ all_faults (positions_of_all slot_keys (tables_at Slot (table_view l.top)))
