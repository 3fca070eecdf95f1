-- Events at which nothing happens.
use Rattle.std.specs.Prelude.{◌≡◌, ℕ, [], Option, None}
use Rattle.trdp_filter.specs.declared.globals.Globals.{Globals}
use Rattle.trdp_model.specs.Configs.{NodeSetup}
use Rattle.trdp_model.specs.Events.{EventModel}
use Rattle.trdp_model.specs.Slots.{SlotState}
use Rattle.trdp_model.specs.Alone.{refused_as, globals_after, standing_after}
use Rattle.trdp_model.specs.NodeModels.{NodeModel}
use Rattle.trdp_model.specs.NodeModels.{MayTakeMemory}

-- whatever the node, it accepts the event, what is at each number and the globals stay, no number
-- gets a record, and it can't run out of memory
pub record IsInert (event : EventModel) : Type 0 where
  pub admitted : (slots : ℕ) (globals : Globals) → refused_as slots globals event ≡ None
  pub slot : (setup : NodeSetup) (s n : ℕ) (slot : Option SlotState) (globals : Globals)
      → (standing_after setup s n slot globals event).slot ≡ slot
  pub records : (setup : NodeSetup) (s n : ℕ) (slot : Option SlotState) (globals : Globals)
      → (standing_after setup s n slot globals event).records ≡ []
  pub globals : (globals : Globals) → globals_after globals event ≡ globals
  pub memory : (node : NodeModel) → ¬ MayTakeMemory node event
