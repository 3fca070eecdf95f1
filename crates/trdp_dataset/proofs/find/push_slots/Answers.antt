use Rattle.std.proofs.Common.{[], ◌∷◌}
use Rattle.std.proofs.lemmas.Result.{on_ok_weaker}
use Rattle.toml.specs.View.{table_view}
use Rattle.trdp_dataset.specs.declared.key.Key.TheVariants.{Slot}
use Rattle.trdp_dataset.specs.Keys.{slot_keys}
use Rattle.trdp_dataset.specs.Positions.{positions_at, positions_of_all, tables_at, slot_positions}
use Rattle.trdp_dataset.specs.Findings.{faults_of}
use Rattle.trdp_dataset.proofs.ListedLemmas.{listed_both}
use Rattle.trdp_dataset.proofs.find.push_slots.Goals as goal

pub returns : goal.returns
unfolding slot_positions
returns c =
    let top = table_view c.args.top.now in
    record {
      faults = on_ok_weaker c.push_slot_tables.result (listed_both (positions_at (Slot ∷ []) top)
          (positions_of_all slot_keys (tables_at Slot top)) (faults_of c.args.found.now.items)
          (faults_of c.push_table.new.found.items) (faults_of c.push_slot_tables.new.found.items)
          c.in_ok-push_table.ensures.faults) c.push_slot_tables.ensures.faults;
    }
