use Rattle.std.proofs.Common.{sym, ◌∙◌}
use Rattle.toml.specs.View.{view}
use Rattle.trdp_dataset.specs.Values.{is_table}
use Rattle.trdp_dataset.proofs.ArrayLemmas.{members_tested}
use Rattle.trdp_dataset.proofs.value.is_tables.Goals as goal

pub returns-then-is_array : goal.returns-then-is_array
returns-then-is_array c = record {
  value = c.all_tables.ensures.value ∙ members_tested is_table (view c.args.value.now)
      c.items.result.now (sym c.if-is_array.true ∙ c.is_array.ensures) c.items.ensures.value;
}
