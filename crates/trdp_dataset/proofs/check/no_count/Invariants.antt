use Rattle.std.proofs.Common.{◌≡◌, drop, false}
use Rattle.std.specs.List.{list_all}
use Rattle.trdp_dataset.specs.Datasets.{all_counted}
use Rattle.trdp_dataset.proofs.check.no_count.Given as goal

abbrev pub invariant-loop-i : goal.invariant-loop-i
invariant-loop-i l = list_all (λ d. all_counted false d.elements) (drop l.i l.datasets)
    ≡ list_all (λ d. all_counted false d.elements) l.datasets
