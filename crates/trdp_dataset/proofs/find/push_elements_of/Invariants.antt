use Rattle.std.proofs.Common.{◌≡◌, ◌++◌, drop}
use Rattle.toml.specs.View.{table_view}
use Rattle.trdp_dataset.specs.declared.key.Key.TheVariants.{Elements}
use Rattle.trdp_dataset.specs.Keys.{element_keys}
use Rattle.trdp_dataset.specs.Positions.{positions_of_all, tables_at}
use Rattle.trdp_dataset.specs.Seen.{tables_seen}
use Rattle.trdp_dataset.specs.Findings.{faults_of, all_faults}
use Rattle.trdp_dataset.proofs.find.push_elements_of.Given as goal

abbrev pub invariant-loop-index : goal.invariant-loop-index
invariant-loop-index l = faults_of l.found.items
    ++ all_faults (positions_of_all element_keys (tables_seen (drop l.index l.members)))
    ≡ faults_of l.fn.found.items
    ++ all_faults (positions_of_all element_keys (tables_at Elements (table_view l.dataset)))
