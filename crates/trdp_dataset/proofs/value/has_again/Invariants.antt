use Rattle.std.proofs.Common.{◌≡◌, drop}
use Rattle.trdp_dataset.specs.Values.{has_again}
use Rattle.trdp_dataset.proofs.AgainLemmas.{given}
use Rattle.trdp_dataset.proofs.value.has_again.Given as goal

abbrev pub invariant-loop-index : goal.invariant-loop-index
invariant-loop-index l = has_again (given l.least l.greatest (drop l.index l.items))
    ≡ has_again (given l.least l.greatest l.items)
