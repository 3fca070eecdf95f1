-- The text of an event: the lines of the records that each slot gets, or the line of its fault.
use Rattle.std.specs.Prelude.{ℕ, suc, List, [], ◌∷◌, ◌++◌, length, Option, Some, None}
use Rattle.std.specs.List.{flat_map}
use Rattle.trdp_filter.specs.declared.globals.Globals.{Globals}
use Rattle.trdp_model.specs.declared.fault.NodeFault.{NodeFault}
use Rattle.trdp_model.specs.Configs.{NodeSetup, setup_of}
use Rattle.trdp_model.specs.Events.{EventModel}
use Rattle.trdp_model.specs.Records.{labelled}
use Rattle.trdp_model.specs.Slots.{SlotState}
use Rattle.trdp_model.specs.Alone.{refused_as, records_after, told_opening}
use Rattle.trdp_model.specs.NodeModels.{NodeModel}
use Rattle.trdp_text.specs.RecordText.{text_of_record, text_of_fault}

-- the text of the records that these slots get at such an event, slots rising, each slot's in
-- their order
-- rule: out.order
abbrev pub slots_text : NodeSetup → Globals → EventModel → ℕ → List SlotState → List ℕ
slots_text setup g event s [] = []
slots_text setup g event s (slot ∷ slots) =
    flat_map text_of_record (labelled s (records_after setup s slot g event))
    ++ slots_text setup g event (suc s) slots

-- the text of an event with this fault, or of the records of one with none
abbrev pub text_unless : Option NodeFault → NodeModel → EventModel → List ℕ
text_unless (Some fault) node event = text_of_fault fault
text_unless None node event =
    slots_text (setup_of node.config) node.globals event 0 node.slots
    ++ flat_map text_of_record (labelled (length node.slots) (told_opening event))

-- the text of an event
abbrev pub event_text : NodeModel → EventModel → List ℕ
event_text node event = text_unless (refused_as (length node.slots) node.globals event) node event
