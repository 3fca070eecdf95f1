-- A script on its way: the text of the bytes that were read, and what is to come.
use Rattle.std.specs.Prelude.{◌≡◌, ◌≤◌, ◌+◌, ◌++◌, ◌∷◌, ℕ, List, [], length, take, vec_capacity}
use Rattle.std.specs.Prelude.{Option, Some, None, Result, Ok, Err}
use Rattle.std.specs.Str.Lines.{lines}
use Rattle.trdp_dataset.specs.Configs.{ConfigModel}
use Rattle.trdp_model.specs.Events.{EventModel}
use Rattle.trdp_model.specs.NodeModels.{NodeModel, opened_model}
use Rattle.trdp_engine.specs.NodeStates.{uncounted}
use Rattle.trdp_text.specs.declared.fault.LineFault.{LineFault}
use Rattle.trdp_script.specs.declared.player.Player.{Player}
use Rattle.trdp_script.specs.declared.script.Script.{Script}
use Rattle.trdp_script.specs.declared.fault.ScriptFault.{ScriptFault}
use Rattle.trdp_script.specs.declared.fault.ScriptFault.TheVariants.{Line, Read, Write}
use Rattle.trdp_script.specs.declared.fault.ScriptFault.TheVariants.{OutOfMemory}
use Rattle.trdp_script.specs.Pieces.{IsBare, ended_lines}
use Rattle.trdp_script.specs.ScriptText.{events_of, events_text, fault_from}
use Rattle.trdp_model.specs.NodeModels.{nodes_after}
use Rattle.trdp_script.specs.Wants.{LineMayWant, NextMayWant}
use Rattle.trdp_script.specs.Writes.{PassesOn, PassesSome}

-- the event of a line without a fault, if it has one
abbrev pub line_events : Result (Option EventModel) LineFault → List EventModel
line_events (Ok (Some event)) = event ∷ []
line_events (Ok None) = []
line_events (Err fault) = []

-- the node of a player, in which nothing says what an event cost
abbrev pub node_of : Player → NodeModel
node_of player = uncounted player.node

-- a line without a fault was played
pub record PlaysLine (old new : Player) (v w : Option (List ℕ)) (events : List EventModel)
    : Type 0 where
  pub node_is : node_of new ≡ nodes_after (node_of old) events
  pub passed : PassesOn v w old.output.items new.output.items (events_text (node_of old) events)

-- the result of the line of that number, which has this meaning; what the writer holds is v, then
-- w
unfoldable pub LineComesTo : Player → Player → Option (List ℕ) → Option (List ℕ) → ℕ
    → Result (Option EventModel) LineFault → Result (Unit {0}) ScriptFault → Type 0
LineComesTo old new v w number (Err bad) (Ok done) = ⊥
LineComesTo old new v w number (Err bad) (Err (Line n fault)) =
    (n ≡ number) × (fault ≡ bad) × PassesOn v w old.output.items new.output.items []
LineComesTo old new v w number (Err bad) (Err Read) = ⊥
LineComesTo old new v w number (Err bad) (Err Write) = ⊥
LineComesTo old new v w number (Err bad) (Err OutOfMemory) = ⊥
LineComesTo old new v w number (Ok event) (Ok done) =
    PlaysLine old new v w (line_events (Ok event))
LineComesTo old new v w number (Ok event) (Err (Line n fault)) = ⊥
LineComesTo old new v w number (Ok event) (Err Read) = ⊥
LineComesTo old new v w number (Ok event) (Err Write) =
    PassesSome v w old.output.items (events_text (node_of old) (line_events (Ok event)))
LineComesTo old new v w number (Ok event) (Err OutOfMemory) =
    PassesOn v w old.output.items new.output.items [] × LineMayWant (node_of old) (Ok event)

-- where a script is: the node, the bytes of the line that has begun, and the number of that line
pub record Going : Type 0 where
  pub node : NodeModel
  pub line : List ℕ
  pub number : ℕ

abbrev pub going : Script → Going
going s = record { node = node_of s.player; line = s.line.items; number = s.number }

-- bytes were taken: the lines that have their end in them have no fault, and their events were
-- played and printed; what comes later means the same
pub record TakesBytes (old new : Going) (bytes text : List ℕ) : Type 0 where
  pub ended : List (List ℕ)
  pub lines_are : (later : List ℕ)
      → lines (old.line ++ (bytes ++ later)) ≡ ended ++ lines (new.line ++ later)
  pub count : length ended ≡ ended_lines bytes
  pub number : new.number ≡ old.number + length ended
  pub no_fault : fault_from old.number ended ≡ None
  pub node_is : new.node ≡ nodes_after old.node (events_of ended)
  pub text_is : text ≡ events_text old.node (events_of ended)

-- bytes were taken, and their text went on its way; what the writer holds is v, then w
pub record Plays (old new : Script) (v w : Option (List ℕ)) (bytes : List ℕ) : Type 0 where
  pub text : List ℕ
  pub taken : TakesBytes (going old) (going new) bytes text
  pub passed : PassesOn v w old.player.output.items new.player.output.items text

-- the rest of the input was played to its end
pub record Ends (old new : Script) (v w : Option (List ℕ)) (rest : List ℕ) : Type 0 where
  pub text : List ℕ
  pub passed : PassesOn v w old.player.output.items new.player.output.items text
  pub no_fault : fault_from old.number (lines (old.line.items ++ rest)) ≡ None
  pub text_is : text ≡ events_text (node_of old.player) (events_of (lines (old.line.items ++ rest)))

-- the rest of the input was played up to its first line with a fault
pub record StopsAt (old new : Script) (v w : Option (List ℕ)) (rest : List ℕ)
    (n : ℕ) (fault : LineFault) : Type 0 where
  pub text : List ℕ
  pub passed : PassesOn v w old.player.output.items new.player.output.items text
  pub first : fault_from old.number (lines (old.line.items ++ rest)) ≡ Some (n, fault)
  pub text_is : text ≡ events_text (node_of old.player) (events_of (lines (old.line.items ++ rest)))

-- the first `count` lines of the rest of the input have no fault, and were played
pub record PlaysFirst (old new : Script) (v w : Option (List ℕ)) (rest : List ℕ) (count : ℕ)
    : Type 0 where
  pub text : List ℕ
  pub passed : PassesOn v w old.player.output.items new.player.output.items text
  pub no_fault : fault_from old.number (take count (lines (old.line.items ++ rest))) ≡ None
  pub text_is : text ≡ events_text (node_of old.player)
      (events_of (take count (lines (old.line.items ++ rest))))

-- of the rest of the input the reader gave a front, and the lines that have their end in it were
-- played
pub record StopsUnread (old new : Script) (v w : Option (List ℕ)) (rest : List ℕ)
    (left : Option (List ℕ)) : Type 0 where
  pub read : List ℕ
  pub behind : List ℕ
  pub whole : rest ≡ read ++ behind
  pub left_is : left ≡ Some behind
  pub played : PlaysFirst old new v w rest (ended_lines read)

-- an allocation failed for a line of the rest of the input, and those before it were played
pub record StopsWanting (old new : Script) (v w : Option (List ℕ)) (rest : List ℕ) : Type 0 where
  pub count : ℕ
  pub played : PlaysFirst old new v w rest count
  pub wanting : NextMayWant (node_of old.player) (lines (old.line.items ++ rest)) count

-- where a script with this rest of its input stops for a fault of its own, and not of its reader
unfoldable pub Stops : Script → Script → Option (List ℕ) → Option (List ℕ) → List ℕ
    → ScriptFault → Type 0
Stops old new v w rest (Line n fault) = StopsAt old new v w rest n fault
Stops old new v w rest Read = ⊥
Stops old new v w rest Write = PassesSome v w old.player.output.items
    (events_text (node_of old.player) (events_of (lines (old.line.items ++ rest))))
Stops old new v w rest OutOfMemory = StopsWanting old new v w rest

-- no newline is among the bytes of the line that has begun, which has room for the longest line and
-- a carriage return
pub record IsSound (s : Script) : Type 0 where
  pub bare : IsBare s.line.items
  pub room : 140001 ≤ vec_capacity s.line

-- how the rest of a script is run, of which this is left to the reader in the end
unfoldable pub ComesTo : Script → Script → Option (List ℕ) → Option (List ℕ) → List ℕ
    → Option (List ℕ) → Result (Unit {0}) ScriptFault → Type 0
ComesTo old new v w rest left (Ok done) = Ends old new v w rest × (left ≡ Some [])
ComesTo old new v w rest left (Err (Line n fault)) = Stops old new v w rest (Line n fault)
ComesTo old new v w rest left (Err Read) = StopsUnread old new v w rest left
ComesTo old new v w rest left (Err Write) = Stops old new v w rest Write
ComesTo old new v w rest left (Err OutOfMemory) = Stops old new v w rest OutOfMemory

-- a script over a node of the configuration that was just opened
pub record Starts (config : ConfigModel) (s : Script) : Type 0 where
  pub node : node_of s.player ≡ opened_model config
  pub line : s.line.items ≡ []
  pub number : s.number ≡ 1
  pub output : s.player.output.items ≡ []
