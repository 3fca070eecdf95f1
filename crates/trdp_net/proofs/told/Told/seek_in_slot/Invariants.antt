use Rattle.std.proofs.Common.{drop}
use Rattle.trdp_net.specs.Tellings.{sent_in_slot}
use Rattle.trdp_net.proofs.TellingLemmas.{Remains}
use Rattle.trdp_net.proofs.told.Told.seek_in_slot.Given as goal

abbrev pub invariant-loop-i : goal.invariant-loop-i
invariant-loop-i l =
    Remains (sent_in_slot l.self.home l.slot l.self.out.records) l.which
    (sent_in_slot l.self.home l.slot (drop l.i l.self.out.records)) l.left
