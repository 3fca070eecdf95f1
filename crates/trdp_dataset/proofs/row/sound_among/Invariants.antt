use Rattle.std.proofs.Common.{◌≡◌, ◌++◌, drop}
use Rattle.trdp_dataset.specs.Misfits.{sound_among}
use Rattle.trdp_dataset.proofs.row.sound_among.Given as goal

abbrev pub invariant-loop-element : goal.invariant-loop-element
invariant-loop-element l = l.sound.items ++ sound_among l.known (drop l.element-index l.elements)
    ≡ sound_among l.known l.elements
