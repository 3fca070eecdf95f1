-- What a check of a configuration does.
use Rattle.std.specs.Prelude.{◌≡◌, ◌≢◌, ◌⊎◌, ℕ, List, Option, Ok}
use Rattle.std.specs.Io.KnownBytes.{Keeps}
use Rattle.trdp_dataset.specs.Configs.{ConfigModel, ReadsToml, config_of}
use Rattle.trdp_dataset.specs.declared.fault.ConfigFault.{ConfigFault}
use Rattle.trdp_text.specs.ConfigNames.{text_of_config_fault}
use Rattle.trdp_program.specs.Faults.{TellsFault, TellsFaultFirst, AppendsText, text_of_serve_fault}
use Rattle.trdp_program.specs.Programs.{IsConfigFault}
use Rattle.trdp_program.specs.declared.faults.ServeFault.{ServeFault}
use Rattle.trdp_program.specs.declared.faults.ServeFault.TheVariants.{Bind}

-- the bytes are no configuration, or an allocation failed while they were read: the status is 1,
-- and the first line that the error stream gets is the fault's
pub record RefusesConfig (bytes : List ℕ) (errors errors_then : Option (List ℕ)) (status : ℕ)
    : Type 0 where
  pub fault : ConfigFault
  pub is : IsConfigFault bytes fault
  pub status_is : status ≡ 1
  pub told : TellsFaultFirst (text_of_config_fault fault) errors errors_then

-- the bytes are a configuration: the status is 0, some text was written, and the error stream gets
-- nothing
pub record ReportsConfig (bytes : List ℕ) (old new errors errors_then : Option (List ℕ))
    (status : ℕ) : Type 0 where
  pub config : ConfigModel
  pub is : ReadsToml config_of bytes (Ok config)
  pub status_is : status ≡ 0
  pub written : AppendsText old new
  pub faultless : Keeps errors errors_then

-- the bytes are a configuration, but the text wasn't written, or only a front of it: the status is
-- 4, and the error stream gets the fault
pub record FailsToReport (bytes : List ℕ) (old new errors errors_then : Option (List ℕ))
    (status : ℕ) : Type 0 where
  pub config : ConfigModel
  pub is : ReadsToml config_of bytes (Ok config)
  pub fault : ServeFault
  pub not_bind : fault ≢ Bind
  pub status_is : status ≡ 4
  pub written : AppendsText old new
  pub told : TellsFault (text_of_serve_fault fault) errors errors_then

-- a check of these bytes as a configuration: what the writer and the error stream had before and
-- have after it, and the status. If the bytes are none, nothing was written
abbrev pub ChecksProgram : List ℕ → Option (List ℕ) → Option (List ℕ) → Option (List ℕ)
    → Option (List ℕ) → ℕ → Type 0
ChecksProgram bytes old new errors errors_then status =
    (RefusesConfig bytes errors errors_then status × Keeps old new)
    ⊎ ReportsConfig bytes old new errors errors_then status
    ⊎ FailsToReport bytes old new errors errors_then status
