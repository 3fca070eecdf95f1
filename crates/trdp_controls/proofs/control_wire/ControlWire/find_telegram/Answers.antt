use Rattle.std.proofs.Common.{refl}
use Rattle.trdp_controls.proofs.control_wire.ControlWire.find_telegram.Goals as goal

pub returns-in-Ok-clause-takes : goal.returns-in-Ok-clause-takes
returns-in-Ok-clause-takes g c = record {
  answer = c.find-found.result.0;
  told = c.find-found.ensures.takes;
  found = rw c.in-Ok.is refl;
  fault = rw c.in-Ok.is refl;
}
