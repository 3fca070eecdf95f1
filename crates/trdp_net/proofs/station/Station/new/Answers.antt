use Rattle.std.proofs.Common.{sym, subst}
use Rattle.trdp_model.specs.Configs.{setup_of}
use Rattle.trdp_engine.specs.NodeStates.{NodeState}
use Rattle.trdp_net.specs.Tellings.{IsOwnHome}
use Rattle.trdp_net.proofs.station.Station.new.Goals as goal

pub invariant_of-result : goal.invariant_of-result
invariant_of-result c =
    subst (λ (node : NodeState). IsOwnHome c.of-home.result (setup_of node.config))
    (sym c.in-Ok.ensures.opened) c.of-home.ensures
