-- Where a script may need memory.
use Rattle.std.specs.Prelude.{◌≡◌, ◌≢◌, ◌⊎◌, ℕ, List, [], true, take, slice_get}
use Rattle.std.specs.Prelude.{Option, Some, None, Result, Ok, Err}
use Rattle.trdp_model.specs.Events.{EventModel}
use Rattle.trdp_model.specs.NodeModels.{NodeModel}
use Rattle.trdp_model.specs.NodeModels.{MayTakeMemory}
use Rattle.trdp_text.specs.EventBytes.{carries_bytes}
use Rattle.trdp_text.specs.Lines.{line_of}
use Rattle.trdp_text.specs.EventText.{event_text}
use Rattle.trdp_script.specs.ScriptText.{events_of}
use Rattle.trdp_model.specs.NodeModels.{nodes_after}
use Rattle.trdp_text.specs.declared.fault.LineFault.{LineFault}

-- memory may be needed for an event, or for the text of what it gives
abbrev pub EventMayWant : NodeModel → EventModel → Type 0
EventMayWant node event = MayTakeMemory node event ⊎ (event_text node event ≢ [])

-- memory may be needed for the bytes that a line carries, or for its event: never for a line that
-- is skipped, nor for one with a fault
abbrev pub LineMayWant : NodeModel → Result (Option EventModel) LineFault → Type 0
LineMayWant node (Ok (Some event)) =
    (carries_bytes (Some event) ≡ true) ⊎ EventMayWant node event
LineMayWant node (Ok None) = ⊥
LineMayWant node (Err fault) = ⊥

-- the line is there, and memory may be needed for it
abbrev pub IsThereAndMayWant : NodeModel → Option (List ℕ) → Type 0
IsThereAndMayWant node (Some line) = LineMayWant node (line_of line)
IsThereAndMayWant node None = ⊥

-- after the first `count` lines, which the node has taken, there is one for which memory may be
-- needed
abbrev pub NextMayWant : NodeModel → List (List ℕ) → ℕ → Type 0
NextMayWant node lines count =
    IsThereAndMayWant (nodes_after node (events_of (take count lines))) (slice_get lines count)
