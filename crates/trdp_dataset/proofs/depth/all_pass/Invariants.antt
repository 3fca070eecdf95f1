use Rattle.std.proofs.Common.{◌≡◌, ℕ, drop}
use Rattle.trdp_dataset.specs.Datasets.{all_pass}
use Rattle.trdp_dataset.specs.Depths.{is_within}
use Rattle.trdp_dataset.specs.Stored.{within_row}
use Rattle.trdp_dataset.proofs.depth.all_pass.Given as goal

abbrev pub invariant-loop-element : goal.invariant-loop-element
invariant-loop-element l =
    (depth : ℕ) → l.within ≡ within_row l.datasets depth
    → all_pass (is_within l.datasets depth) (drop l.element-index l.elements)
    ≡ all_pass (is_within l.datasets depth) l.elements
