use Rattle.std.proofs.Common.{drop}
use Rattle.trdp_net.specs.Tellings.{all_sent}
use Rattle.trdp_net.proofs.TellingLemmas.{Remains}
use Rattle.trdp_net.proofs.told.find.Given as goal

abbrev pub invariant-loop-told : goal.invariant-loop-told
invariant-loop-told l =
    Remains (all_sent l.events) l.which (all_sent (drop l.told-index l.events)) l.left
