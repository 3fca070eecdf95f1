-- What the run of a script does, where the reader and the writer report their bytes.
use Rattle.std.specs.Prelude.{◌≡◌, ◌⊎◌, ◌++◌, ℕ, List, [], take}
use Rattle.std.specs.Prelude.{Option, Some, None, Result, Ok, Err}
use Rattle.std.specs.Io.KnownBytes.{Appends}
use Rattle.std.specs.Str.Lines.{lines}
use Rattle.trdp_dataset.specs.Configs.{ConfigModel}
use Rattle.trdp_model.specs.NodeModels.{opened_model}
use Rattle.trdp_text.specs.declared.fault.LineFault.{LineFault}
use Rattle.trdp_script.specs.declared.fault.ScriptFault.{ScriptFault}
use Rattle.trdp_script.specs.declared.fault.ScriptFault.TheVariants.{Line, Read, Write}
use Rattle.trdp_script.specs.declared.fault.ScriptFault.TheVariants.{OutOfMemory}
use Rattle.trdp_script.specs.Pieces.{ended_lines}
use Rattle.trdp_script.specs.ScriptText.{events_of, events_text, fault_from}
use Rattle.trdp_script.specs.ScriptText.{script_fault, script_text}
use Rattle.trdp_script.specs.Wants.{NextMayWant}

-- the first `count` lines of a script have no fault, and the text of their events was written
pub record PlaysLines (config : ConfigModel) (input : List ℕ) (count : ℕ)
    (old new : Option (List ℕ)) : Type 0 where
  pub no_fault : fault_from 1 (take count (lines input)) ≡ None
  pub written : Appends old new
      (events_text (opened_model config) (events_of (take count (lines input))))

-- a front of the input was read, after which the reader gave no more or wasn't asked, and the
-- lines that had their end in it were played
pub record StopsReading (config : ConfigModel) (input : List ℕ) (left old new : Option (List ℕ))
    : Type 0 where
  pub read : List ℕ
  pub behind : List ℕ
  pub whole : input ≡ read ++ behind
  pub left_is : left ≡ Some behind
  pub played : PlaysLines config input (ended_lines read) old new

-- nothing was read, and no line was played
abbrev pub HasNotBegun : List ℕ → Option (List ℕ) → ℕ → Type 0
HasNotBegun input left count = (left ≡ Some input) × (count ≡ 0)

-- an allocation failed, before the first line was read or for the line after those that were
-- played
pub record StopsForMemory (config : ConfigModel) (input : List ℕ) (left old new : Option (List ℕ))
    : Type 0 where
  pub count : ℕ
  pub played : PlaysLines config input count old new
  pub wanting : HasNotBegun input left count
      ⊎ NextMayWant (opened_model config) (lines input) count

-- a front of the script's text was written
pub record WritesFront (config : ConfigModel) (input : List ℕ) (old new : Option (List ℕ))
    : Type 0 where
  pub length : ℕ
  pub written : Appends old new (take length (script_text config input))

-- the input was read to its end, no line has a fault, and the text of the script was written
pub record RunsToEnd (config : ConfigModel) (input : List ℕ) (left old new : Option (List ℕ))
    : Type 0 where
  pub at_end : left ≡ Some []
  pub no_fault : script_fault input ≡ None
  pub written : Appends old new (script_text config input)

-- the line of that number is the first with a fault, which is this one, and the text of all events
-- before it was written
pub record RunsToFault (config : ConfigModel) (input : List ℕ) (n : ℕ) (fault : LineFault)
    (old new : Option (List ℕ)) : Type 0 where
  pub first : script_fault input ≡ Some (n, fault)
  pub written : Appends old new (script_text config input)

-- how a script with this input is run, of which `left` is left to the reader in the end; what the
-- writer holds is old, then new
abbrev pub RunsScript : ConfigModel → List ℕ → Option (List ℕ) → Option (List ℕ)
    → Option (List ℕ) → Result (Unit {0}) ScriptFault → Type 0
RunsScript config input left old new (Ok done) = RunsToEnd config input left old new
RunsScript config input left old new (Err (Line n fault)) =
    RunsToFault config input n fault old new
RunsScript config input left old new (Err Read) = StopsReading config input left old new
RunsScript config input left old new (Err Write) = WritesFront config input old new
RunsScript config input left old new (Err OutOfMemory) = StopsForMemory config input left old new
