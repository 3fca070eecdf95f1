use Rattle.std.proofs.Common.{◌≡◌, ℕ, drop}
use Rattle.trdp_dataset.specs.FixedSizes.{all_fixed, is_fixed, fixed_row}
use Rattle.trdp_dataset.proofs.fixed.all_fixed.Given as goal

abbrev pub invariant-loop-element : goal.invariant-loop-element
invariant-loop-element l =
    (depth : ℕ) → l.fixed ≡ fixed_row l.datasets depth
    → all_fixed (is_fixed l.datasets depth) (drop l.element-index l.elements)
    ≡ all_fixed (is_fixed l.datasets depth) l.elements
