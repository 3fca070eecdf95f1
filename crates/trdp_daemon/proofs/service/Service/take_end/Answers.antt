use Rattle.std.proofs.Common.{refl}
use Rattle.trdp_daemon.proofs.LeaseLemmas.{ended_control, ended_else}
use Rattle.trdp_daemon.proofs.service.Service.take_end.Goals as goal

pub returns-in-Control-clause-comes : goal.returns-in-Control-clause-comes
returns-in-Control-clause-comes g c = ended_control c.args.self.now _ c.args.port
    c.in-Control.slot c.in-Control.is c.end.ensures.comes

pub returns-in_default : goal.returns-in_default
returns-in_default g c = record {
  sound = c.requires.sound;
  config = refl;
  comes = ended_else _ _ c.args.link.now c.args.self.now c.args.port c.in_default.not-Control;
}
