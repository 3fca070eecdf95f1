use Rattle.std.proofs.Common.{sym, ap, ◌∙◌}
use Rattle.trdp_dataset.specs.Datasets.{passes}
use Rattle.trdp_dataset.specs.FixedSizes.{is_fixed}
use Rattle.trdp_dataset.proofs.FixedRowLemmas.{unknown_fixed}
use Rattle.trdp_dataset.proofs.fixed.form_fixed.Goals as goal

pub returns-in-None : goal.returns-in-None
returns-in-None c = λ depth row.
    unknown_fixed c.args.datasets.now depth c.in-Nested.id c.in-None.ensures.found
    ∙ ap (passes (is_fixed c.args.datasets.now depth)) (sym c.in-Nested.is)
