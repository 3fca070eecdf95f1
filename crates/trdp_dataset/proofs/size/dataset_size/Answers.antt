use Rattle.trdp_dataset.specs.Limits.{size_cap}
use Rattle.std.proofs.Common.{ap, []}
use Rattle.std.specs.Prelude.{min, unwrap_or}
use Rattle.trdp_dataset.specs.ZeroSizes.{form_size, entries_size, dataset_size}
use Rattle.trdp_dataset.proofs.size.dataset_size.Goals as goal

pub returns-in-None : goal.returns-in-None
unfolding dataset_size entries_size
returns-in-None c = λ depth row. ap (λ o.
    min (entries_size (form_size (dataset_size c.args.datasets.now depth)) (unwrap_or o [])) size_cap)
    c.in-None.ensures.value
