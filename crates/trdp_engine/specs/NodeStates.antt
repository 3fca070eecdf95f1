-- A node, with what its latest event cost.
use Rattle.trdp_model.specs.NodeModels.{NodeModel}
use Rattle.trdp_store.specs.Counting.{no_counts}
use Rattle.std.specs.Prelude.{List}
use Rattle.std.specs.Prelude.{map}
use Rattle.trdp_filter.specs.declared.globals.Globals.{Globals}
use Rattle.trdp_dataset.specs.Configs.{ConfigModel}
use Rattle.trdp_filter.specs.Globals.{first_globals}
use Rattle.trdp_store.specs.declared.counts.Counts.{Counts}
use Rattle.trdp_model.specs.Slots.{SlotState, empty_slot}

-- a node: its configuration, its globals, its slots, and what the latest event that it accepted
-- cost
pub record NodeState : Type 0 where
  pub config : ConfigModel
  pub globals : Globals
  pub slots : List SlotState
  pub counts : Counts

-- a node that was just made serves each slot of its configuration, and all are empty
abbrev pub opened_node : ConfigModel → NodeState
opened_node config =
    record {
      config = config;
      globals = first_globals;
      slots = map (λ slot. empty_slot slot.quotas) config.slots;
      counts = no_counts;
    }

-- a node, apart from what its latest event cost
abbrev pub uncounted : NodeState → NodeModel
uncounted node = record { config = node.config; globals = node.globals; slots = node.slots }
