use Rattle.std.proofs.Common.{arith}
use Rattle.trdp_model.specs.Configs.{setup_of}
use Rattle.trdp_model.proofs.StepLemmas.{opened_fit}
use Rattle.trdp_engine.proofs.node.Node.new.Goals as goal

pub invariant_of-result : goal.invariant_of-result
invariant_of-result c = (
  omega arith,
  rw (← c.registry.ensures.value) c.sound.ensures.sound,
  rw c.in-Ok.ensures.slots
      (opened_fit (setup_of c.args.config) c.args.config.slots),
  c.in-Ok.ensures.capacity,
)
