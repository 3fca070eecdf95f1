use Rattle.std.proofs.Common.{ap, ◌∙◌}
use Rattle.toml.proofs.Views.{table_get}
use Rattle.toml.specs.Data.{get_member}
use Rattle.toml.specs.View.{table_view}
use Rattle.trdp_dataset.proofs.position.value_at.Goals as goal

pub returns : goal.returns
returns c = record {
  value = table_get c.get.result c.text.result.now c.args.table.now.entries c.get.ensures.value
      ∙ ap (λ name. get_member name (table_view c.args.table.now)) c.text.ensures.value;
}
