use Rattle.std.proofs.Common.{[], ◌∷◌, ◌++◌}
use Rattle.std.proofs.lemmas.Result.{on_ok_weaker}
use Rattle.toml.specs.View.{table_view}
use Rattle.trdp_dataset.specs.declared.key.Key.TheVariants.{Dataset}
use Rattle.trdp_dataset.specs.Keys.{dataset_keys}
use Rattle.trdp_dataset.specs.Positions.{positions_at, positions_of_all, tables_at}
use Rattle.trdp_dataset.specs.Positions.{element_positions, dataset_positions}
use Rattle.trdp_dataset.specs.Findings.{faults_of}
use Rattle.trdp_dataset.proofs.ListedLemmas.{listed_both}
use Rattle.trdp_dataset.proofs.find.push_datasets.Goals as goal

pub returns : goal.returns
unfolding dataset_positions
returns c =
    let top = table_view c.args.top.now in
    let datasets = tables_at Dataset top in
    let key = positions_at (Dataset ∷ []) top in
    let own = positions_of_all dataset_keys datasets in
    let old = faults_of c.args.found.now.items in
    let middle = faults_of c.push_dataset_tables.new.found.items in
    record {
      faults = on_ok_weaker c.push_elements.result (listed_both (key ++ own)
          (element_positions datasets) old middle (faults_of c.push_elements.new.found.items)
          (listed_both key own old (faults_of c.push_table.new.found.items) middle
          c.in_ok-push_table.ensures.faults c.in_ok-push_dataset_tables.ensures.faults))
          c.push_elements.ensures.faults;
    }
