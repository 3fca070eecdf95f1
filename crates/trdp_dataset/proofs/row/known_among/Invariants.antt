use Rattle.std.proofs.Common.{◌≡◌, ◌++◌, drop}
use Rattle.trdp_dataset.specs.Misfits.{known_among}
use Rattle.trdp_dataset.proofs.row.known_among.Given as goal

abbrev pub invariant-loop-element : goal.invariant-loop-element
invariant-loop-element l = l.known.items ++ known_among (drop l.element-index l.elements)
    ≡ known_among l.elements
