use Rattle.std.proofs.Common.{[], ◌∷◌, ◌++◌, append-nil, sym, ap, ◌∙◌}
use Rattle.std.proofs.lemmas.Result.{on_ok_weaker}
use Rattle.toml.specs.View.{table_view}
use Rattle.trdp_dataset.specs.declared.key.Key.TheVariants.{Node}
use Rattle.trdp_dataset.specs.Keys.{node_keys}
use Rattle.trdp_dataset.specs.Positions.{positions_at, positions_of_node, node_positions}
use Rattle.trdp_dataset.specs.Findings.{faults_of, all_faults}
use Rattle.trdp_dataset.proofs.ListedLemmas.{listed_both}
use Rattle.trdp_dataset.proofs.find.push_node.Goals as goal

pub returns-in-Some : goal.returns-in-Some
unfolding node_positions
returns-in-Some c =
    let own = positions_at (Node ∷ []) (table_view c.args.top.now) in
    let old = faults_of c.args.found.now.items in
    record {
      faults = on_ok_weaker c.push_table-in-Some.result (λ last.
          listed_both own (positions_at node_keys (table_view c.in-Some.node.now)) old
          (faults_of c.push_table.new.found.items) (faults_of c.push_table-in-Some.new.found.items)
          c.in_ok-push_table.ensures.faults last
          ∙ ap (λ o. old ++ all_faults (own ++ positions_of_node o)) c.in-Some.ensures.value)
          c.push_table-in-Some.ensures.faults;
    }

pub returns-in-None : goal.returns-in-None
unfolding node_positions
returns-in-None c =
    let own = positions_at (Node ∷ []) (table_view c.args.top.now) in
    let old = faults_of c.args.found.now.items in
    let middle = faults_of c.push_table.new.found.items in
    record {
      faults = listed_both own [] old middle middle c.in_ok-push_table.ensures.faults
          (sym (append-nil middle))
          ∙ ap (λ o. old ++ all_faults (own ++ positions_of_node o)) c.in-None.ensures.value;
    }
