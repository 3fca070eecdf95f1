use Rattle.std.proofs.Common.{◌≡◌, ◌++◌, length, map}
use Rattle.std.specs.Vec.Iter.{into_iter_items, into_iter_len}
use Rattle.trdp_model.specs.NodeModels.{opened_model}
use Rattle.trdp_net.specs.Networks.{net_node}
use Rattle.trdp_net.proofs.network.Network.new.Given as goal

abbrev pub invariant-loop-config : goal.invariant-loop-config
invariant-loop-config l = record {
  items : l.yielded ++ into_iter_items l.config-iterator
      ≡ into_iter_items l.initial.config-iterator;
  nodes : l.stations.items ≡ map (λ config. net_node (opened_model config)) l.yielded;
  left : into_iter_len l.config-iterator ≡ length (into_iter_items l.config-iterator);
}
