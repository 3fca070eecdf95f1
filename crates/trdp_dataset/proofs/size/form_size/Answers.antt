use Rattle.trdp_dataset.specs.Limits.{size_cap}
use Rattle.std.proofs.Common.{sym, ap, ◌∙◌}
use Rattle.std.specs.Prelude.{min}
use Rattle.trdp_dataset.specs.ZeroSizes.{form_size, dataset_size}
use Rattle.trdp_dataset.proofs.SizeLemmas.{unknown_size}
use Rattle.trdp_dataset.proofs.size.form_size.Goals as goal

pub returns-in-None : goal.returns-in-None
unfolding form_size
returns-in-None c = λ depth row.
    ap (λ n. min n size_cap)
    (sym (unknown_size c.args.datasets.now depth c.in-Nested.id c.in-None.ensures.found))
    ∙ ap (λ form. min (form_size (dataset_size c.args.datasets.now depth) form) size_cap)
    (sym c.in-Nested.is)
