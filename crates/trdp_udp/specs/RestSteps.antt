-- What a rest of the resting wire does.
use Rattle.std.specs.Prelude.{◌≡◌, ℕ, zero, suc, ◌+◌, ◌-◌, ◌/◌, nat_lt, List, [], ◌∷◌}
use Rattle.std.specs.Prelude.{Bool, true, false, if◌then◌else◌, Option, Some, None}
use Rattle.trdp_udp.specs.declared.rest_step.RestStep.{RestStep}
use Rattle.trdp_udp.specs.declared.rest_step.RestStep.TheVariants.{GoOn, Look, Sleep, Wait}
use Rattle.trdp_base.specs.Reported.{TellsMore}

-- a turn without a rest asks the system for news at its end, unless it is the first after a rest
abbrev pub busy_step : Bool → RestStep
busy_step true = GoOn
busy_step false = Look

-- a rest of at most that many microseconds: a wait of whole milliseconds, which ends some 200
-- microseconds early, as the system comes late; a sleep where no millisecond is left
abbrev pub idle_step : ℕ → RestStep
idle_step most =
    if nat_lt (most - 200) 1000 then Sleep most else Wait ((most - 200) / 1000)

-- the step of a rest of at most that many microseconds, where something was heard since the rest
-- before or not, and the turn is the first after a rest or not
unfoldable pub step_of : (heard : Bool) → ℕ → (is_first : Bool) → RestStep
step_of true most is_first = busy_step is_first
step_of false zero is_first = busy_step is_first
step_of false (suc n) is_first = idle_step (suc n)

-- whether a step is a rest
abbrev pub is_rest : RestStep → Bool
is_rest GoOn = false
is_rest Look = false
is_rest (Sleep micros) = true
is_rest (Wait millis) = true

-- the clock is read where a step begins, and again where it ends if it is a rest: else it ends at
-- once
abbrev pub ReadsSo : (is_rest : Bool) → (began ended : ℕ)
    → (readings readings_then : Option (List ℕ)) → Type 0
ReadsSo true began ended readings readings_then =
    TellsMore readings readings_then (began ∷ ended ∷ [])
ReadsSo false began ended readings readings_then =
    TellsMore readings readings_then (began ∷ []) × (ended ≡ began)

-- whether there was no rest for 50 milliseconds up to this reading: since the first turn without
-- one, or the first after the latest sleep for being busy
unfoldable pub is_breathless : Option ℕ → ℕ → Bool
is_breathless None reading = false
is_breathless (Some since) reading = nat_lt (since + 49_999) reading

-- the sleep where it is so, of 50 microseconds
abbrev pub breath : Bool → List ℕ
breath true = 50 ∷ []
breath false = []

-- since when there was no rest then
abbrev pub busy_after : Bool → Option ℕ → ℕ → Option ℕ
busy_after true busy reading = None
busy_after false None reading = Some reading
busy_after false (Some since) reading = Some since

-- what is left of a rest of at most that many microseconds that begins at this reading: all of it
-- before the first; after another, whose end this was, what the turn between them hasn't used
abbrev pub rest_left : Option ℕ → (began most : ℕ) → ℕ
rest_left None began most = most
rest_left (Some ended) began most = most - (began - ended)

-- a sleep where there was no rest for long up to this reading
abbrev pub Breathes : (reading : ℕ) → (sleeps sleeps_then : Option (List ℕ))
    → (busy busy_then : Option ℕ) → Type 0
Breathes reading sleeps sleeps_then busy busy_then =
    TellsMore sleeps sleeps_then (breath (is_breathless busy reading))
    × (busy_then ≡ busy_after (is_breathless busy reading) busy reading)

-- how long a step of a rest that begins at this reading sleeps
abbrev pub PausesSo : RestStep → (reading : ℕ) → (sleeps sleeps_then : Option (List ℕ))
    → (busy busy_then : Option ℕ) → Type 0
PausesSo GoOn reading sleeps sleeps_then busy busy_then =
    Breathes reading sleeps sleeps_then busy busy_then
PausesSo Look reading sleeps sleeps_then busy busy_then =
    Breathes reading sleeps sleeps_then busy busy_then
PausesSo (Sleep micros) reading sleeps sleeps_then busy busy_then =
    TellsMore sleeps sleeps_then (micros ∷ []) × (busy_then ≡ None)
PausesSo (Wait millis) reading sleeps sleeps_then busy busy_then =
    (sleeps_then ≡ sleeps) × (busy_then ≡ None)
