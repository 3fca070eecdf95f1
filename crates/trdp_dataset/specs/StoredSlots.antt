-- How the slots of a configuration are stored.
use Rattle.std.specs.Prelude.{List, map}
use Rattle.trdp_dataset.specs.declared.config.SlotConfig.{SlotConfig}
use Rattle.trdp_dataset.specs.Configs.{SlotModel}

-- a slot as contracts see it
abbrev pub slot_model : SlotConfig → SlotModel
slot_model slot = record { quotas = slot.quotas; control_port = slot.control_port }

abbrev pub slot_models : List SlotConfig → List SlotModel
slot_models slots = map slot_model slots
