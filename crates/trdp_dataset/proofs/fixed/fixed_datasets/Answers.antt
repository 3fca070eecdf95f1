use Rattle.std.proofs.Common.{length, ap, ◌∙◌}
use Rattle.std.proofs.lemmas.List.{length-replicate}
use Rattle.trdp_dataset.proofs.FixedRowLemmas.{none_fixed}
use Rattle.trdp_dataset.proofs.fixed.fixed_datasets.Goals as goal

pub loop-init : goal.loop-init
loop-init c = record {
  len = ap length c.in_ok-fixed.ensures ∙ length-replicate _ _;
  row = c.in_ok-fixed.ensures ∙ none_fixed c.args.datasets.now c.args.datasets.now;
}
