use Rattle.std.proofs.Common.{sym, ◌∙◌}
use Rattle.toml.specs.View.{view}
use Rattle.trdp_dataset.specs.Values.{is_address}
use Rattle.trdp_dataset.proofs.ArrayLemmas.{members_tested}
use Rattle.trdp_dataset.proofs.value.are_addresses.Goals as goal

pub returns-then-is_array : goal.returns-then-is_array
returns-then-is_array c = record {
  value = c.all_addresses.ensures.value
      ∙ members_tested (is_address c.args.least c.args.greatest) (view c.args.value.now)
      c.items.result.now (sym c.if-is_array.true ∙ c.is_array.ensures) c.items.ensures.value;
}
