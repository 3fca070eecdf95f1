-- What a script says and gives: the events of its lines, the first line with a fault, and the text
-- of the records.
use Rattle.std.specs.Prelude.{ℕ, suc, List, [], ◌∷◌, ◌++◌}
use Rattle.std.specs.Prelude.{Option, Some, None, Result, Ok, Err}
use Rattle.std.specs.Str.Lines.{lines}
use Rattle.trdp_dataset.specs.Configs.{ConfigModel}
use Rattle.trdp_model.specs.Events.{EventModel}
use Rattle.trdp_model.specs.NodeModels.{node_after}
use Rattle.trdp_model.specs.NodeModels.{NodeModel, opened_model}
use Rattle.trdp_text.specs.declared.fault.LineFault.{LineFault}
use Rattle.trdp_text.specs.Lines.{line_of}
use Rattle.trdp_text.specs.EventText.{event_text}

-- the text of events, one after another
abbrev pub events_text : NodeModel → List EventModel → List ℕ
events_text node [] = []
events_text node (event ∷ events) =
    event_text node event ++ events_text (node_after node event) events

-- the event of a line, and then these; a line that is skipped has none, and after a line with a
-- fault there is none
abbrev pub after_line : Result (Option EventModel) LineFault → List EventModel
    → List EventModel
after_line (Ok (Some event)) events = event ∷ events
after_line (Ok None) events = events
after_line (Err fault) events = []

-- the events of the lines before the first with a fault
abbrev pub events_of : List (List ℕ) → List EventModel
events_of [] = []
events_of (line ∷ lines) = after_line (line_of line) (events_of lines)

-- a line's number and its fault, or without a fault what is found later
abbrev pub fault_or : ℕ → Result (Option EventModel) LineFault → Option (ℕ × LineFault)
    → Option (ℕ × LineFault)
fault_or n (Ok event) later = later
fault_or n (Err fault) later = Some (n, fault)

-- the first line with a fault: its number, where the first line has the number n, and its fault
abbrev pub fault_from : ℕ → List (List ℕ) → Option (ℕ × LineFault)
fault_from n [] = None
fault_from n (line ∷ lines) = fault_or n (line_of line) (fault_from (suc n) lines)

-- the events of a script, whose lines end with a newline, or with a carriage return and a newline;
-- the last may lack its end
-- rule: line.end
abbrev pub script_events : List ℕ → List EventModel
script_events input = events_of (lines input)

-- the number, counted from 1 over all lines, and the fault of a script's first line with a fault
-- rule: line.counted
abbrev pub script_fault : List ℕ → Option (ℕ × LineFault)
script_fault input = fault_from 1 (lines input)

-- what a script gives over a node of the configuration
-- rule: run.text
abbrev pub script_text : ConfigModel → List ℕ → List ℕ
script_text config input = events_text (opened_model config) (script_events input)
