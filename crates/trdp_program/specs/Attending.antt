-- What the program does when it serves a node until it is stopped.
use Rattle.std.specs.Prelude.{◌≡◌, ◌⊎◌, ℕ, ◌+◌, ◌*◌, ◌-◌, ◌^◌, ◌≤◌, ◌==◌, min, if◌then◌else◌}
use Rattle.std.specs.Prelude.{Bool, false, List, [], ◌∷◌, ◌++◌, codes, length, Option, Ok}
use Rattle.trdp_dataset.specs.Configs.{ConfigModel, ReadsToml, config_of}
use Rattle.trdp_daemon.specs.declared.totals.Totals.{Totals}
use Rattle.trdp_base.specs.Reported.{TellsMore}
use Rattle.trdp_wire.specs.Told.{Taking, Give}
use Rattle.trdp_daemon.specs.Daemons.{DaemonState, HasServed}
use Rattle.trdp_daemon.specs.Questions.{text_of_totals}
use Rattle.trdp_daemon.specs.Resting.{AreEarly, last_reading}
use Rattle.trdp_daemon.specs.Turns.{Turn}
use Rattle.trdp_program.specs.Checking.{RefusesConfig}
use Rattle.trdp_program.specs.Faults.{TellsFault, AppendsText, text_of_serve_fault}
use Rattle.trdp_program.specs.Serving.{AreTotals}
use Rattle.trdp_program.specs.Streams.{Attempt, attempt, written_by, is_cut_behind, cut_line_end}
use Rattle.trdp_program.specs.declared.faults.ServeFault.{ServeFault}
use Rattle.trdp_program.specs.declared.faults.ServeFault.TheVariants.{Bind, Write, OutOfMemory}

-- the microseconds from one line of totals to the next, for that many seconds; with 0 it is as
-- long as a clock of 64 bits goes
unfoldable pub totals_period : ℕ → ℕ
totals_period seconds = if seconds == 0 then 2 ^ 64 - 1 else seconds * 1000000

-- a line of totals: all of the node's turns up to it, what was given in them, and its totals
pub record TotalsLine : Type 0 where
  pub turns : List Turn
  pub gives : List Give
  pub totals : Totals

-- the turns up to the latest of these lines, which comes first
abbrev pub turns_so_far : List TotalsLine → List Turn
turns_so_far [] = []
turns_so_far (line ∷ earlier) = line.turns

-- what was given in them
abbrev pub gives_so_far : List TotalsLine → List Give
gives_so_far [] = []
gives_so_far (line ∷ earlier) = line.gives

-- the text of a line
abbrev pub text_of_line : Totals → List ℕ
text_of_line totals = text_of_totals totals ++ codes "\n"

-- the reading of the clock at which a line is due after these turns: a step after the last one
abbrev pub line_due : ℕ → List Turn → ℕ
line_due step turns = min (last_reading turns + step) (2 ^ 64 - 1)

-- the last of these turns is the first of them that begins at the reading `due` of the clock or
-- later; or there are 2^64 - 1 or more, all of which begin before
pub record EndsWhenDue (due : ℕ) (turns : List Turn) : Type 0 where
  pub early : List Turn
  pub are_early : AreEarly due early
  pub last : ((turn : Turn) × (turns ≡ early ++ turn ∷ []) × (due ≤ turn.reading))
      ⊎ ((turns ≡ early) × (2 ^ 64 - 1 ≤ length early))

-- a daemon that had taken these turns with these gives since it was made has taken more, which end
-- so, the last of them at `reading`
pub record ServesUntilDue {W C : Type 0} (takings_in : W → Option (List Taking))
    (gives_in : W → Option (List Give)) (readings_in : C → Option (List ℕ))
    (config : ConfigModel) (lease : Option ℕ) (wire : W) (clock : C) (turns : List Turn)
    (gives : List Give)
    (due reading : ℕ) (daemon : DaemonState W C) : Type 0 where
  pub n : ℕ
  pub served : HasServed takings_in gives_in readings_in config lease wire clock n daemon
  pub more : List Turn
  pub more_gives : List Give
  pub turns_are : served.turns ≡ turns ++ more
  pub gives_are : served.gives ≡ gives ++ more_gives
  pub ends : EndsWhenDue due more
  pub reading_is : reading ≡ last_reading served.turns

-- a line of a node of that configuration and lease, after these turns and their gives: it comes
-- with the first turn that begins a step or more after the last of these
pub record IsNextLine (config : ConfigModel) (lease : Option ℕ) (step : ℕ) (turns : List Turn)
    (gives : List Give)
    (line : TotalsLine) : Type 0 where
  pub more : List Turn
  pub more_gives : List Give
  pub turns_are : line.turns ≡ turns ++ more
  pub gives_are : line.gives ≡ gives ++ more_gives
  pub ends : EndsWhenDue (line_due step turns) more
  pub counted : AreTotals config lease line.turns line.gives line.totals

-- these are lines of one node of that configuration and lease, from its first turn on, the latest
-- first
abbrev pub AreLines : ConfigModel → Option ℕ → ℕ → List TotalsLine → Type 0
AreLines config lease step [] = Unit {0}
AreLines config lease step (line ∷ earlier) =
    IsNextLine config lease step (turns_so_far earlier) (gives_so_far earlier) line
    × AreLines config lease step earlier

-- what the stream is asked to take for a line, if it took these before: the end of a line that was
-- cut, and then the whole line
abbrev pub bytes_of_line : List Attempt → TotalsLine → List ℕ
bytes_of_line before line =
    cut_line_end (is_cut_behind false (written_by before)) ++ text_of_line line.totals

-- a stream was asked to take each of these lines once, in their order, the latest being the first
-- in this list; and nothing else. A line that it didn't take is left out
abbrev pub AttemptsLines : List TotalsLine → List Attempt → Type 0
AttemptsLines [] attempts = attempts ≡ []
AttemptsLines (line ∷ earlier) attempts =
    (before : List Attempt) × (count : ℕ) × AttemptsLines earlier before
    × (attempts ≡ before ++ attempt (bytes_of_line before line) count ∷ [])

-- a stream was asked to take such lines, and nothing else
pub record WritesLines (config : ConfigModel) (lease : Option ℕ) (step : ℕ)
    (old new : Option (List Attempt))
    : Type 0 where
  pub lines : List TotalsLine
  pub are_lines : AreLines config lease step lines
  pub attempts : List Attempt
  pub are_attempts : AttemptsLines lines attempts
  pub told : TellsMore old new attempts

-- it was asked to take as many as can be counted
pub record WritesAllLines (config : ConfigModel) (lease : Option ℕ) (step : ℕ)
    (old new : Option (List Attempt))
    : Type 0 where
  pub all : WritesLines config lease step old new
  pub count : length all.lines ≡ 2 ^ 64 - 1

-- what a service that ends with this fault has written
abbrev pub WritesUpTo : ServeFault → ConfigModel → Option ℕ → ℕ → Option (List Attempt)
    → Option (List Attempt) → Type 0
WritesUpTo Bind config lease step old new = TellsMore old new []
WritesUpTo Write config lease step old new = ⊥
WritesUpTo OutOfMemory config lease step old new = WritesLines config lease step old new

-- a daemon of this configuration and lease has served since it was made with this wire and this
-- clock, which report what they do by these functions: its turns are those up to the latest of
-- these lines
pub record HasServedLines {W C : Type 0} (takings_in : W → Option (List Taking))
    (gives_in : W → Option (List Give)) (readings_in : C → Option (List ℕ))
    (config : ConfigModel) (lease : Option ℕ) (wire : W) (clock : C) (step : ℕ)
    (lines : List TotalsLine)
    (daemon : DaemonState W C) : Type 0 where
  pub n : ℕ
  pub served : HasServed takings_in gives_in readings_in config lease wire clock n daemon
  pub turns_are : served.turns ≡ turns_so_far lines
  pub gives_are : served.gives ≡ gives_so_far lines
  pub are_lines : AreLines config lease step lines

-- such a daemon has served, and a stream was asked to take n lines; the next one is due at `due`,
-- and the latest is cut or isn't
pub record WritesLinesOver {W C : Type 0} (takings_in : W → Option (List Taking))
    (gives_in : W → Option (List Give)) (readings_in : C → Option (List ℕ))
    (config : ConfigModel) (lease : Option ℕ) (wire : W) (clock : C) (step n due : ℕ)
    (is_cut : Bool)
    (old new : Option (List Attempt)) (daemon : DaemonState W C) : Type 0 where
  pub lines : List TotalsLine
  pub served : HasServedLines takings_in gives_in readings_in config lease wire clock step lines
      daemon
  pub count : length lines ≡ n
  pub attempts : List Attempt
  pub are_attempts : AttemptsLines lines attempts
  pub told : TellsMore old new attempts
  pub due_is : due ≡ line_due step (turns_so_far lines)
  pub is_cut_is : is_cut ≡ is_cut_behind false (written_by attempts)

-- such a daemon has served up to a line for which an allocation failed: a stream was asked to take
-- those before it
pub record FailsOver {W C : Type 0} (takings_in : W → Option (List Taking))
    (gives_in : W → Option (List Give)) (readings_in : C → Option (List ℕ))
    (config : ConfigModel) (lease : Option ℕ) (wire : W) (clock : C) (step : ℕ)
    (old new : Option (List Attempt))
    (daemon : DaemonState W C) (fault : ServeFault) : Type 0 where
  pub fault_is : fault ≡ OutOfMemory
  pub line : TotalsLine
  pub earlier : List TotalsLine
  pub served : HasServedLines takings_in gives_in readings_in config lease wire clock step
      (line ∷ earlier) daemon
  pub attempts : List Attempt
  pub are_attempts : AttemptsLines earlier attempts
  pub told : TellsMore old new attempts

-- as many lines were offered as can be counted: the status is 0, and the error stream gets what
-- was lost
pub record AttendsToEnd (config : ConfigModel) (lease : Option ℕ) (step : ℕ)
    (old new : Option (List Attempt))
    (errors errors_then : Option (List ℕ)) (status : ℕ) : Type 0 where
  pub status_is : status ≡ 0
  pub written : WritesAllLines config lease step old new
  pub losses : AppendsText errors errors_then

-- the service ended with a fault: the status is 4, and the error stream gets what was lost, and
-- then the fault
pub record FailsToAttend (config : ConfigModel) (lease : Option ℕ) (step : ℕ)
    (old new : Option (List Attempt))
    (errors errors_then : Option (List ℕ)) (status : ℕ) : Type 0 where
  pub fault : ServeFault
  pub status_is : status ≡ 4
  pub written : WritesUpTo fault config lease step old new
  pub before : Option (List ℕ)
  pub losses : AppendsText errors before
  pub told : TellsFault (text_of_serve_fault fault) before errors_then

-- a daemon's service of a node, with this lease: what the writer was asked to take and what the
-- error stream had before and after it, and the status
abbrev pub Attends : ConfigModel → Option ℕ → ℕ → Option (List Attempt) → Option (List Attempt)
    → Option (List ℕ) → Option (List ℕ) → ℕ → Type 0
Attends config lease step old new errors errors_then status =
    AttendsToEnd config lease step old new errors errors_then status
    ⊎ FailsToAttend config lease step old new errors errors_then status

-- the bytes are a configuration, whose node was served; the error stream gets some text before
-- that and some after it
pub record AttendsConfig (bytes : List ℕ) (lease : Option ℕ) (step : ℕ)
    (old new : Option (List Attempt))
    (errors errors_then : Option (List ℕ)) (status : ℕ) : Type 0 where
  pub config : ConfigModel
  pub is : ReadsToml config_of bytes (Ok config)
  pub before : Option (List ℕ)
  pub behind : Option (List ℕ)
  pub words : AppendsText errors before
  pub attends : Attends config lease step old new before behind status
  pub more : AppendsText behind errors_then

-- a daemon's service over these bytes of a configuration, with this lease: what the writer was
-- asked to take and what the error stream had before and after it, and the status. If the bytes are
-- none, the writer was asked for nothing
abbrev pub AttendsProgram : List ℕ → Option ℕ → ℕ → Option (List Attempt) → Option (List Attempt)
    → Option (List ℕ) → Option (List ℕ) → ℕ → Type 0
AttendsProgram bytes lease step old new errors errors_then status =
    (RefusesConfig bytes errors errors_then status × (new ≡ old))
    ⊎ AttendsConfig bytes lease step old new errors errors_then status
