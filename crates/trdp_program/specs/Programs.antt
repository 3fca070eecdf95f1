-- What a run of the program does.
use Rattle.std.specs.Prelude.{◌≡◌, ◌⊎◌, ℕ, List, Option, Some, Result, Ok, Err}
use Rattle.std.specs.Io.KnownBytes.{Keeps}
use Rattle.trdp_dataset.specs.Configs.{ConfigModel, ReadsToml, config_of}
use Rattle.trdp_dataset.specs.declared.fault.ConfigFault.{ConfigFault}
use Rattle.trdp_script.specs.ScriptRuns.{RunsScript}
use Rattle.trdp_script.specs.declared.fault.ScriptFault.{ScriptFault}
use Rattle.trdp_text.specs.ConfigNames.{text_of_config_fault}
use Rattle.trdp_program.specs.Faults.{TellsEnd, TellsFault, status_of_script}

-- the bytes are a configuration
abbrev pub IsConfig : List ℕ → Type 0
IsConfig bytes = (config : ConfigModel) × ReadsToml config_of bytes (Ok config)

-- the fault is the one that the bytes have as a configuration, or an allocation failed while they
-- were read
abbrev pub IsConfigFault : List ℕ → ConfigFault → Type 0
IsConfigFault bytes fault = ReadsToml {A = ConfigModel} config_of bytes (Err fault)

-- the bytes are no configuration, or an allocation failed while they were read: the status is 1,
-- nothing was written, and the error stream gets the fault
pub record TakesNoConfig (bytes : List ℕ) (old new errors errors_then : Option (List ℕ))
    (status : ℕ) : Type 0 where
  pub fault : ConfigFault
  pub is : IsConfigFault bytes fault
  pub status_is : status ≡ 1
  pub quiet : Keeps old new
  pub told : TellsFault (text_of_config_fault fault) errors errors_then

-- the bytes are a configuration, over which the script was run, if the reader reports its bytes;
-- the status is that of the script, and the error stream gets its fault
pub record RunsOverConfig (bytes : List ℕ)
    (unread left old new errors errors_then : Option (List ℕ)) (status : ℕ) : Type 0 where
  pub config : ConfigModel
  pub is : ReadsToml config_of bytes (Ok config)
  pub end : Result (Unit {0}) ScriptFault
  pub status_is : status ≡ status_of_script end
  pub runs : (input : List ℕ) → unread ≡ Some input → RunsScript config input left old new end
  pub told : TellsEnd end errors errors_then

-- a run over these bytes of a configuration: what the reader, the writer and the error stream had
-- before and have after it, and the status
abbrev pub RunsProgram : List ℕ → Option (List ℕ) → Option (List ℕ) → Option (List ℕ)
    → Option (List ℕ) → Option (List ℕ) → Option (List ℕ) → ℕ → Type 0
RunsProgram bytes unread left old new errors errors_then status =
    TakesNoConfig bytes old new errors errors_then status
    ⊎ RunsOverConfig bytes unread left old new errors errors_then status
