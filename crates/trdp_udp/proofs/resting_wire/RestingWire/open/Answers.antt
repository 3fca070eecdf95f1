use Rattle.std.proofs.Common.{refl}
use Rattle.trdp_udp.proofs.RestingWireLemmas.{each_there}
use Rattle.trdp_udp.proofs.resting_wire.RestingWire.open.Goals as goal

pub returns-clause-fresh : goal.returns-clause-fresh
returns-clause-fresh g c = record {
  clock_is = refl;
  news = λ socket. each_there 98 socket;
  heard = refl;
  is_first = refl;
  busy = refl;
  rested = refl;
  failures = c.over.ensures.failures;
  refusal = c.over.ensures.refusal;
  unread = c.over.ensures.unread;
}
