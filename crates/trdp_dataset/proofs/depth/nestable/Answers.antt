use Rattle.std.proofs.Common.{ap, ◌∙◌, length}
use Rattle.std.proofs.lemmas.List.{length-replicate}
use Rattle.trdp_dataset.proofs.RowLemmas.{none_within}
use Rattle.trdp_dataset.proofs.depth.nestable.Goals as goal

pub loop-init : goal.loop-init
loop-init c = record {
  len = ap length c.in_ok-within.ensures ∙ length-replicate _ _;
  row = c.in_ok-within.ensures ∙ none_within c.args.datasets.now c.args.datasets.now;
}
