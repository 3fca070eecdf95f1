-- What a daemon reports on the error stream while it serves.
use Rattle.std.specs.Prelude.{◌≡◌, ◌⊎◌, ℕ, zero, suc, ◌+◌, ◌-◌, ◌^◌, ◌<◌, ◌≤◌, min, nat_lt}
use Rattle.std.specs.Prelude.{if◌then◌else◌}
use Rattle.std.specs.Prelude.{Bool, false, List, ◌++◌, codes, Option}
use Rattle.std.specs.Io.KnownBytes.{Appends}
use Rattle.trdp_base.specs.NumberText.{text_of_number}
use Rattle.trdp_daemon.specs.Daemons.{DaemonState}
use Rattle.trdp_daemon.specs.Resting.{AttendsUntil}
use Rattle.trdp_daemon.specs.declared.totals.Totals.{Totals}
use Rattle.trdp_wire.specs.Told.{Taking, Give}
use Rattle.trdp_script.specs.Writes.{PartlyWrites}
use Rattle.trdp_program.specs.Faults.{AppendsText}
use Rattle.trdp_program.specs.Streams.{cut_line_end}
use Rattle.trdp_program.specs.declared.reports.Reports.{Reports}

-- the reports of a daemon that has taken no turn
abbrev pub no_reports : Reports
no_reports = record { lost = 0; unread = 0; missing = 0; due = 0; is_cut = false }

-- when the next look is due after a turn at this reading of the clock, if it was due at `due`: a
-- second later, or as before if there was no look
abbrev pub next_look : ℕ → ℕ → ℕ
next_look reading due =
    if nat_lt reading due then due else min (reading + 1000000) (2 ^ 64 - 1)

-- a line about what went wrong so often since the line before, and about the latest time; first
-- the end of a line that was cut
abbrev pub count_line : Bool → List ℕ → ℕ → List ℕ → List ℕ
count_line is_cut what count latest =
    cut_line_end is_cut
    ++ (what ++ codes " " ++ text_of_number count ++ codes " since the last line" ++ latest)
    ++ codes "\n"

-- a total is more than was told: its line, which has the difference, or a front of it was written.
-- If it was written whole, the total is told then, else the next line has the difference too
pub record TellsMoreOf (what : List ℕ) (told total told_then : ℕ) (is_cut is_cut_then : Bool)
    (old new : Option (List ℕ)) : Type 0 where
  pub more : told < total
  pub latest : List ℕ
  pub front : PartlyWrites old new (count_line is_cut what (total - told) latest)
  pub whole : is_cut_then ≡ false
      → Appends old new (count_line is_cut what (total - told) latest)
  pub told_is : told_then ≡ (if is_cut_then then told else total)

-- what a daemon reports of a total: nothing if it is not more than was told
abbrev pub TellsCount : List ℕ → ℕ → ℕ → ℕ → Bool → Bool → Option (List ℕ) → Option (List ℕ)
    → Type 0
TellsCount what told total told_then is_cut is_cut_then old new =
    ((total ≤ told) × (told_then ≡ told) × (is_cut_then ≡ is_cut) × (new ≡ old))
    ⊎ TellsMoreOf what told total told_then is_cut is_cut_then old new

-- a look at a daemon with these totals: it tells of the gives that were lost, then of the takes
-- that failed, and then of the files that are gone
pub record Looks (totals : Totals) (old new : Reports) (errors errors_then : Option (List ℕ))
    : Type 0 where
  pub is_cut_lost : Bool
  pub is_cut_unread : Bool
  pub behind_lost : Option (List ℕ)
  pub behind_unread : Option (List ℕ)
  pub lost : TellsCount (codes "lost") old.lost totals.lost new.lost old.is_cut is_cut_lost errors
      behind_lost
  pub unread : TellsCount (codes "unread") old.unread totals.unread new.unread is_cut_lost
      is_cut_unread behind_lost behind_unread
  pub missing : AppendsText behind_unread errors_then

-- after a turn at this reading of the clock there was a look, if it was due
pub record LooksIfDue (reading : ℕ) (totals : Totals) (old new : Reports)
    (errors errors_then : Option (List ℕ)) : Type 0 where
  pub due : new.due ≡ next_look reading old.due
  pub quiet : reading < old.due → (new ≡ old) × (errors_then ≡ errors)
  pub told : old.due ≤ reading → Looks totals old new errors errors_then

-- a daemon attended to its node until a line was due, at `due`, or a look; then there was that look
pub record AttendsToLook {W C : Type 0} (takings_in : W → Option (List Taking))
    (gives_in : W → Option (List Give)) (rested_in : W → W → ℕ → Type 0)
    (readings_in : C → Option (List ℕ)) (due : ℕ) (old new : DaemonState W C)
    (reports reports_then : Reports) (errors errors_then : Option (List ℕ)) : Type 0 where
  pub reading : ℕ
  pub attends : AttendsUntil takings_in gives_in rested_in readings_in (min due reports.due)
      reading old new
  pub looks : LooksIfDue reading new.totals reports reports_then errors errors_then

-- that n times, one after the other
abbrev pub AttendsToLooks : {W C : Type 0} → (W → Option (List Taking)) → (W → Option (List Give))
    → (W → W → ℕ → Type 0) → (C → Option (List ℕ)) → ℕ → ℕ → DaemonState W C → DaemonState W C
    → Reports → Reports → Option (List ℕ) → Option (List ℕ) → Type 0
AttendsToLooks takings_in gives_in rested_in readings_in due zero old new reports reports_then
    errors errors_then = (new ≡ old) × (reports_then ≡ reports) × (errors_then ≡ errors)
AttendsToLooks {W} {C} takings_in gives_in rested_in readings_in due (suc n) old new reports
    reports_then errors errors_then =
    (before : DaemonState W C) × (reports_before : Reports) × (errors_before : Option (List ℕ))
    × AttendsToLooks takings_in gives_in rested_in readings_in due n old before reports
    reports_before errors errors_before
    × AttendsToLook takings_in gives_in rested_in readings_in due before new reports_before
    reports_then errors_before errors_then
