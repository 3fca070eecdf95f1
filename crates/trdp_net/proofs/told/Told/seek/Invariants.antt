use Rattle.std.proofs.Common.{◌-◌}
use Rattle.trdp_net.specs.Tellings.{sent_in, sent_in_slots}
use Rattle.trdp_net.proofs.TellingLemmas.{Remains}
use Rattle.trdp_net.proofs.told.Told.seek.Given as goal

abbrev pub invariant-loop-slot : goal.invariant-loop-slot
invariant-loop-slot l =
    Remains (sent_in l.self) l.which
    (sent_in_slots l.self.home l.self.out.records l.slot (l.self.slots - l.slot)) l.left
