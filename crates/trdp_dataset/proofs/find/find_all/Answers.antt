use Rattle.std.proofs.Common.{ap, ◌∙◌, [], ◌++◌}
use Rattle.toml.specs.View.{table_view}
use Rattle.trdp_dataset.specs.Positions.{node_positions, slot_positions, dataset_positions}
use Rattle.trdp_dataset.specs.Positions.{all_positions}
use Rattle.trdp_dataset.specs.Findings.{faults_of, least_of, all_faults}
use Rattle.trdp_dataset.specs.Misfits.{file_rows, misfits}
use Rattle.trdp_dataset.proofs.ListedLemmas.{listed_both}
use Rattle.trdp_dataset.proofs.FitLemmas.{first_listed}
use Rattle.trdp_dataset.proofs.find.find_all.Goals as goal

pub returns : goal.returns
unfolding all_positions
returns c =
    let top = table_view c.args.top.now in
    let node = c.in_ok-push_node.ensures.faults
    ∙ ap (λ fs. faults_of fs ++ all_faults (node_positions top)) c.new-found.ensures.items in
    let slots = listed_both (node_positions top) (slot_positions top) [] _ _ node
    c.in_ok-push_slots.ensures.faults in
    let datasets = listed_both (node_positions top ++ slot_positions top) (dataset_positions top)
    [] _ _ slots c.in_ok-push_datasets.ensures.faults in
    record {
      first = ap least_of (c.in_ok-push_misfits.ensures.faults
          ∙ ap (λ fs. fs ++ misfits (file_rows top)) datasets)
          ∙ first_listed top;
    }
