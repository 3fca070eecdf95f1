use Rattle.std.proofs.Common.{◌≡◌, drop, false}
use Rattle.trdp_dataset.specs.Datasets.{all_counted}
use Rattle.trdp_dataset.proofs.check.is_counted.Given as goal

abbrev pub invariant-loop-element : goal.invariant-loop-element
invariant-loop-element l = all_counted l.counted (drop l.element-index l.elements)
    ≡ all_counted false l.elements
