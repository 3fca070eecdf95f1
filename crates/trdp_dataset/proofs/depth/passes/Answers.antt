use Rattle.std.proofs.Common.{sym, ap, ◌∙◌}
use Rattle.trdp_dataset.specs.Datasets.{passes}
use Rattle.trdp_dataset.specs.Depths.{is_within}
use Rattle.trdp_dataset.proofs.RowLemmas.{unknown_within}
use Rattle.trdp_dataset.proofs.depth.passes.Goals as goal

pub returns-in-None : goal.returns-in-None
returns-in-None c = λ depth row. unknown_within c.args.datasets.now depth c.in-Nested.id
    c.in-None.ensures.found ∙ ap (passes (is_within c.args.datasets.now depth)) (sym c.in-Nested.is)
