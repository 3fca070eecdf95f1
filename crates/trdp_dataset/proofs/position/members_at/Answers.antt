use Rattle.std.proofs.Common.{ap, ◌∙◌}
use Rattle.toml.specs.View.{view, table_view}
use Rattle.trdp_dataset.specs.Positions.{value_at, items_found, items_at, tables_at}
use Rattle.trdp_dataset.proofs.ArrayLemmas.{members_seen}
use Rattle.trdp_dataset.proofs.position.members_at.Goals as goal

pub returns-in-Some : goal.returns-in-Some
unfolding tables_at items_at
returns-in-Some c = record {
  value = members_seen (value_at c.args.key (table_view c.args.table.now))
      (view c.in-Some.value.now) c.items.result.now c.in-Some.ensures.value c.items.ensures.value;
  items = c.items.ensures.value ∙ ap items_found c.in-Some.ensures.value;
}
