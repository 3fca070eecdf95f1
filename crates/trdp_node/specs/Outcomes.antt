-- What the functions of the library do to the node behind its pointer, and what they tell.
use Rattle.std.specs.Prelude.{◌≡◌, ◌≢◌, ◌⊎◌, ℕ, ◌^◌, ◌-◌, List, [], length, true}
use Rattle.std.specs.Prelude.{Option, Some, None, Result, Ok, Err, slice_get}
use Rattle.std.specs.List.{flat_map}
use Rattle.std_alloc.specs.Vec.{vec_ptr}
use Rattle.trdp_engine.specs.NodeStates.{NodeState, uncounted}
use Rattle.trdp_model.specs.declared.fault.NodeFault.{NodeFault}
use Rattle.trdp_model.specs.declared.fault.NodeFault.TheVariants.{OutOfMemory}
use Rattle.trdp_model.specs.Alone.{FaultIs, refused_as}
use Rattle.trdp_model.specs.Events.{EventModel}
use Rattle.trdp_model.specs.NodeModels.{StepsAsAlone, MayTakeMemory, IsNextDue, node_after}
use Rattle.trdp_model.specs.Records.{RecordModel}
use Rattle.trdp_outbox.specs.SlotOrder.{by_slot}
use Rattle.trdp_text.specs.declared.fault.LineFault.{LineFault}
use Rattle.trdp_text.specs.EventBytes.{carries_bytes}
use Rattle.trdp_text.specs.EventText.{event_text}
use Rattle.trdp_text.specs.Lines.{line_of}
use Rattle.trdp_text.specs.RecordText.{text_of_record}
use Rattle.trdp_node.specs.Codes.{status_of_fault, status_of_line_fault}
use Rattle.trdp_node.specs.EventOf.{event_of}
use Rattle.trdp_node.specs.RecordOf.{record_numbers}
use Rattle.trdp_node.specs.declared.event.EventNumbers.{EventNumbers}
use Rattle.trdp_node.specs.declared.record.RecordNumbers.{RecordNumbers}
use Rattle.trdp_node.specs.declared.results.Done.{Done}
use Rattle.trdp_node.specs.declared.results.State.{State}
use Rattle.trdp_node.specs.declared.results.Text.{Text}
use Rattle.trdp_node.specs.declared.held.HeldNode.{HeldNode}

-- the node is as it was, and there is no record
pub record Stays (old new : NodeState) (records : List RecordModel) : Type 0 where
  pub node : new ≡ old
  pub none : records ≡ []

-- the node processed the event: it is the node after it, each slot got what it gets alone, and the
-- text of the records is the event's
pub record Processes (old new : NodeState) (records : List RecordModel) (event : EventModel)
    : Type 0 where
  pub node : uncounted new ≡ node_after (uncounted old) event
  pub alone : (s : ℕ) → StepsAsAlone (uncounted old) (uncounted new) [] records event s
  pub told : flat_map text_of_record (by_slot records) ≡ event_text (uncounted old) event

-- the fault of an event in this node, other than that there is no memory
abbrev pub fault_now : NodeState → EventModel → Option NodeFault
fault_now node event = refused_as (length node.slots) node.globals event

-- the node's answer to an event, and its records
abbrev pub AnswersEvent : NodeState → NodeState → List RecordModel → EventModel
    → Result (Unit {0}) NodeFault → Type 0
AnswersEvent old new records event (Ok done) =
    (fault_now old event ≡ None) × Processes old new records event
AnswersEvent old new records event (Err fault) =
    FaultIs (fault_now old event) (Err fault) × Stays old new records
    × (fault ≡ OutOfMemory → MayTakeMemory (uncounted old) event)

-- the status of an answer
abbrev pub status_of : Result (Unit {0}) NodeFault → ℕ
status_of (Ok done) = 0
status_of (Err fault) = status_of_fault fault

-- what comes of an event, or of numbers that mean none
abbrev pub StepsTo : Result EventModel ℕ → NodeState → NodeState → List RecordModel → ℕ → Type 0
StepsTo (Ok event) old new records status = (answer : Result (Unit {0}) NodeFault)
    × AnswersEvent old new records event answer × (status ≡ status_of answer)
StepsTo (Err bad) old new records status = Stays old new records × (status ≡ bad)

-- an event in numbers, with its bytes
pub record Steps (old new : HeldNode) (numbers : EventNumbers) (bytes : List ℕ) (done : Done)
    : Type 0 where
  pub comes : StepsTo (event_of numbers bytes) old.node new.node new.records.records done.status
  pub count : done.records ≡ length new.records.records

-- the status and the text of an event with that answer, of which the whole text is given
abbrev pub TextIs : Result (Unit {0}) NodeFault → List ℕ → ℕ → List ℕ → Type 0
TextIs (Ok done) whole status text =
    ((status ≡ 0) × (text ≡ whole)) ⊎ ((status ≡ 20) × (text ≡ []))
TextIs (Err fault) whole status text =
    ((status ≡ status_of_fault fault) × (fault ≢ OutOfMemory) × (text ≡ whole))
    ⊎ ((status ≡ 5) × (text ≡ []))

-- an event was played
pub record PlaysEvent (old new : NodeState) (records : List RecordModel) (event : EventModel)
    (text : List ℕ) (status : ℕ) : Type 0 where
  pub answer : Result (Unit {0}) NodeFault
  pub answers : AnswersEvent old new records event answer
  pub told : TextIs answer (event_text (uncounted old) event) status text

-- what comes of a line that has that meaning; there may be no memory for its bytes
abbrev pub LineTo : Result (Option EventModel) LineFault → NodeState → NodeState
    → List RecordModel → List ℕ → ℕ → Type 0
LineTo (Ok (Some event)) old new records text status =
    PlaysEvent old new records event text status
    ⊎ ((carries_bytes (Some event) ≡ true) × Stays old new records × (text ≡ []) × (status ≡ 5))
LineTo (Ok None) old new records text status =
    Stays old new records × (text ≡ []) × (status ≡ 0)
LineTo (Err fault) old new records text status =
    Stays old new records × (text ≡ []) × (status ≡ status_of_line_fault fault)

-- where the text is, how long it is, and how many records there are
pub record Lends (held : HeldNode) (text : Text) : Type 0 where
  pub at : text.text ≡ vec_ptr held.text
  pub len : text.len ≡ length held.text.items
  pub count : text.records ≡ length held.records.records

-- a line, in bytes without its end
pub record TakesInLine (old new : HeldNode) (line : List ℕ) (text : Text) : Type 0 where
  pub comes : LineTo (line_of line) old.node new.node new.records.records new.text.items
      text.status
  pub lends : Lends new text

-- the text of the records is printed, or there is no memory for it
abbrev pub PrintsAs : List RecordModel → List ℕ → ℕ → Type 0
PrintsAs records text status =
    ((status ≡ 0) × (text ≡ flat_map text_of_record (by_slot records)))
    ⊎ ((status ≡ 20) × (text ≡ []))

-- the text of the latest event's records; node and records stay
pub record Prints (old new : HeldNode) (text : Text) : Type 0 where
  pub node : new.node ≡ old.node
  pub records : new.records ≡ old.records
  pub comes : PrintsAs old.records.records new.text.items text.status
  pub lends : Lends new text

-- the record of that index, slot by slot; the node stays
pub record ShowsRecord (old new : HeldNode) (index : ℕ) (numbers : RecordNumbers) : Type 0 where
  pub stays : new ≡ old
  pub says : numbers
      ≡ record_numbers numbers.bytes (slice_get (by_slot old.records.records) index)

-- a moment, or for none the greatest number
abbrev pub moment_or_last : Option ℕ → ℕ
moment_or_last (Some moment) = moment
moment_or_last None = 2 ^ 64 - 1

-- what a node tells of itself
pub record TellsOf (node : NodeState) (state : State) : Type 0 where
  pub soonest : Option ℕ
  pub is_soonest : IsNextDue node.slots soonest
  pub due : state.next_due ≡ moment_or_last soonest
  pub moment : state.now ≡ node.globals.now
  pub count : state.slots ≡ length node.slots

-- the same; the node stays
pub record TellsState (old new : HeldNode) (state : State) : Type 0 where
  pub stays : new ≡ old
  pub tells : TellsOf old.node state
