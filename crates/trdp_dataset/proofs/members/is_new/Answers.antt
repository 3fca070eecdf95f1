use Rattle.std.proofs.Common.{not, ap, ◌∙◌}
use Rattle.toml.specs.View.{view}
use Rattle.trdp_dataset.specs.Values.{gives}
use Rattle.trdp_dataset.proofs.MisfitLemmas.{any_mapped}
use Rattle.trdp_dataset.proofs.members.is_new.Goals as goal

pub returns : goal.returns
returns c = record {
  value = ap not (c.any_gives.ensures.value
      ∙ any_mapped (gives c.args.least c.args.greatest c.args.address) view c.args.members.now);
}
