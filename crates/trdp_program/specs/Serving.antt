-- What the program does when it serves a node for a number of turns.
use Rattle.std.specs.Prelude.{◌≡◌, ◌⊎◌, ℕ, ◌*◌, List, ◌++◌, codes, length, map, Option}
use Rattle.std.specs.Prelude.{Result, Ok, Err}
use Rattle.std.specs.Option.{option_map}
use Rattle.std.specs.List.{flat_map}
use Rattle.std.specs.Io.KnownBytes.{Appends, Keeps}
use Rattle.trdp_dataset.specs.Configs.{ConfigModel, ReadsToml, config_of}
use Rattle.trdp_daemon.specs.declared.totals.Totals.{Totals}
use Rattle.trdp_wire.specs.Told.{Taking, Give}
use Rattle.trdp_daemon.specs.Counted.{TurnsCounted}
use Rattle.trdp_daemon.specs.Counting.{no_totals, totals_after}
use Rattle.trdp_daemon.specs.Daemons.{DaemonState, HasServed}
use Rattle.trdp_wire.specs.Ports.{ports_of}
use Rattle.trdp_daemon.specs.Questions.{text_of_totals}
use Rattle.trdp_daemon.specs.Turns.{Turn, AllTakeAt, takings_of, turns_effect, opened_service}
use Rattle.trdp_script.specs.Writes.{PartlyWrites}
use Rattle.trdp_program.specs.Faults.{TellsFault, text_of_serve_fault}
use Rattle.trdp_program.specs.Programs.{TakesNoConfig}
use Rattle.trdp_program.specs.declared.faults.ServeFault.{ServeFault}
use Rattle.trdp_program.specs.declared.faults.ServeFault.TheVariants.{Bind, Write, OutOfMemory}

-- a lease, given in seconds, in microseconds
abbrev pub lease_of : Option ℕ → Option ℕ
lease_of = option_map (λ seconds. seconds * 1000000)

-- these are the totals of a node of that configuration and lease after these turns, its first,
-- with these gives. Each turn took once at each port that is there, in order, and the gives are
-- exactly what the turns offer, whatever they answered. Each answer to the operator about totals
-- has those of its take
pub record AreTotals (config : ConfigModel) (lease : Option ℕ) (turns : List Turn)
    (gives : List Give)
    (totals : Totals) : Type 0 where
  pub ports : AllTakeAt (ports_of config) (opened_service config lease) turns
  pub offers : map (λ give. give.offer) gives
      ≡ (turns_effect (opened_service config lease) turns).telling.offers
  pub totals_are : totals ≡ totals_after no_totals (flat_map takings_of turns) gives
      (turns_effect (opened_service config lease) turns).telling.missed
  pub counted : TurnsCounted no_totals (opened_service config lease) turns gives

-- these are the totals of a node of that configuration and lease after its first n turns
pub record CountsTurns (config : ConfigModel) (lease : Option ℕ) (n : ℕ) (totals : Totals)
    : Type 0 where
  pub turns : List Turn
  pub gives : List Give
  pub count : length turns ≡ n
  pub are : AreTotals config lease turns gives totals

-- these are the totals of a daemon of that configuration and lease that was made with this wire
-- and this clock, which report what they do by these functions, after n turns
pub record CountsTurnsOver {W C : Type 0} (takings_in : W → Option (List Taking))
    (gives_in : W → Option (List Give)) (readings_in : C → Option (List ℕ))
    (config : ConfigModel) (lease : Option ℕ) (wire : W) (clock : C) (n : ℕ) (totals : Totals)
    : Type 0 where
  pub daemon : DaemonState W C
  pub served : HasServed takings_in gives_in readings_in config lease wire clock n daemon
  pub totals_are : totals ≡ daemon.totals

-- the line of these totals was written
abbrev pub WritesTotals : Totals → Option (List ℕ) → Option (List ℕ) → Type 0
WritesTotals totals old new = Appends old new (text_of_totals totals ++ codes "\n")

-- the line of totals of which this holds was written: the status is 0, and the error stream gets
-- nothing
pub record ServesToEnd (counts : Totals → Type 0) (old new errors errors_then : Option (List ℕ))
    (status : ℕ) : Type 0 where
  pub totals : Totals
  pub counted : counts totals
  pub status_is : status ≡ 0
  pub written : WritesTotals totals old new
  pub faultless : Keeps errors errors_then

-- what a service that ends with this fault has written: if the output can't be written, a front of
-- the line of totals of which this holds, and else nothing
abbrev pub WritesNoTotals : ServeFault → (Totals → Type 0) → Option (List ℕ) → Option (List ℕ)
    → Type 0
WritesNoTotals Bind counts old new = Keeps old new
WritesNoTotals OutOfMemory counts old new = Keeps old new
WritesNoTotals Write counts old new = (totals : Totals) × counts totals
    × PartlyWrites old new (text_of_totals totals ++ codes "\n")

-- what a service that ends so has written, by the totals of which this holds
abbrev pub EndsTurns : (Totals → Type 0) → Result (Unit {0}) ServeFault → Option (List ℕ)
    → Option (List ℕ) → Type 0
EndsTurns counts (Ok done) old new =
    (totals : Totals) × counts totals × WritesTotals totals old new
EndsTurns counts (Err fault) old new = WritesNoTotals fault counts old new

-- the line of totals wasn't written, or only a front of it: the status is 4, and the error stream
-- gets the fault
pub record FailsToServe (counts : Totals → Type 0) (old new errors errors_then : Option (List ℕ))
    (status : ℕ) : Type 0 where
  pub fault : ServeFault
  pub status_is : status ≡ 4
  pub written : WritesNoTotals fault counts old new
  pub told : TellsFault (text_of_serve_fault fault) errors errors_then

-- a service of a node, by the totals of its turns: what the writer and the error stream had before
-- and have after it, and the status
abbrev pub ServesNode : (Totals → Type 0) → Option (List ℕ) → Option (List ℕ) → Option (List ℕ)
    → Option (List ℕ) → ℕ → Type 0
ServesNode counts old new errors errors_then status =
    ServesToEnd counts old new errors errors_then status
    ⊎ FailsToServe counts old new errors errors_then status

-- the bytes are a configuration, whose node was served for n turns
pub record ServesConfig (bytes : List ℕ) (lease : Option ℕ) (n : ℕ)
    (old new errors errors_then : Option (List ℕ))
    (status : ℕ) : Type 0 where
  pub config : ConfigModel
  pub is : ReadsToml config_of bytes (Ok config)
  pub serves : ServesNode (CountsTurns config lease n) old new errors errors_then status

-- n turns over these bytes of a configuration, with this lease: what the writer and the error
-- stream had before and have after them, and the status
abbrev pub ServesProgram : List ℕ → Option ℕ → ℕ → Option (List ℕ) → Option (List ℕ)
    → Option (List ℕ) → Option (List ℕ) → ℕ → Type 0
ServesProgram bytes lease n old new errors errors_then status =
    TakesNoConfig bytes old new errors errors_then status
    ⊎ ServesConfig bytes lease n old new errors errors_then status
