-- How a node is opened, and how the fault of a configuration is told.
use Rattle.std.specs.Prelude.{◌≡◌, ℕ, ◌-◌, List, [], ◌++◌, length, replicate, Result, Ok, Err}
use Rattle.std.specs.Prelude.{Option, Some, None}
use denote.RawPtr.{Ptr, null_ptr}
use Rattle.trdp_dataset.specs.declared.fault.ConfigFault.{ConfigFault}
use Rattle.trdp_dataset.specs.Configs.{ConfigModel, ReadsToml, config_of}
use Rattle.trdp_dataset.specs.Faults.{rank}
use Rattle.trdp_engine.specs.NodeStates.{opened_node}
use Rattle.trdp_text.specs.ConfigNames.{text_of_config_fault}
use Rattle.trdp_node.specs.declared.held.HeldNode.{HeldNode}
use Rattle.trdp_node.specs.declared.results.Fault.{Fault}

-- a node that was just opened with this configuration
pub record IsOpened (config : ConfigModel) (held : HeldNode) : Type 0 where
  pub node : held.node ≡ opened_node config
  pub records : held.records.records ≡ []
  pub text : held.text.items ≡ []

-- a node that was just opened with the configuration in these bytes
pub record Opens (bytes : List ℕ) (held : HeldNode) : Type 0 where
  pub config : ConfigModel
  pub read : ReadsToml config_of bytes (Ok config)
  pub opened : IsOpened config held

-- the fault of the configuration in these bytes; any may have OutOfMemory
abbrev pub Refuses : List ℕ → ConfigFault → Type 0
Refuses bytes fault = ReadsToml config_of bytes (Err fault)

-- bytes, and zeros up to that length
abbrev pub filled : ℕ → List ℕ → List ℕ
filled n bytes = bytes ++ replicate (n - length bytes) 0

-- what C is told of a configuration's fault, or that it has none
unfoldable pub fault_told : Option ConfigFault → Fault
fault_told None = record { number = 0; text = filled 60 [] }
fault_told (Some fault) =
    record { number = rank fault; text = filled 60 (text_of_config_fault fault) }

-- what C is told of a configuration in these bytes, and the node that it gets: one that was just
-- opened with it; or the fault, a null pointer and no node
abbrev pub TellsOpening : List ℕ → Fault → Ptr → Option HeldNode → Type 0
TellsOpening bytes told at (Some held) = Opens bytes held × (told ≡ fault_told None)
TellsOpening bytes told at None =
    (at ≡ null_ptr)
    × ((fault : ConfigFault) × Refuses bytes fault × (told ≡ fault_told (Some fault)))
