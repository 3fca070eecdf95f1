use Rattle.std.proofs.Common.{length, ap, ◌∙◌}
use Rattle.std.proofs.lemmas.List.{length-replicate}
use Rattle.trdp_dataset.proofs.SizeLemmas.{no_size_row}
use Rattle.trdp_dataset.proofs.size.nested_sizes.Goals as goal

pub loop-init : goal.loop-init
loop-init c = record {
  len = ap length c.in_ok-sizes.ensures ∙ length-replicate _ _;
  row = c.in_ok-sizes.ensures ∙ no_size_row c.args.datasets.now c.args.datasets.now;
}
