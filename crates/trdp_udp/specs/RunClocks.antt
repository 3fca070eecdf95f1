-- How a clock that runs makes numbers of times.
use Rattle.std.specs.Prelude.{◌≡◌, ℕ, ◌-◌, ◌/◌, ◌^◌, min, Option, Some, None}
use Rattle.std.specs.Time.{instant_nanos}
use Rattle.std.specs.declared.time.Instant.{Instant}
use Rattle.trdp_udp.specs.declared.run_clock.RunClock.{RunClock}

-- whole microseconds from one time to another, at most 2^64 - 1; 0 where the other is earlier
abbrev pub micros_between : Instant → Instant → ℕ
micros_between start moment =
    min ((instant_nanos moment - instant_nanos start) / 1000) (2 ^ 64 - 1)

-- the first time that a clock gave, after a reading that gave this one, or none
abbrev pub start_after : Option Instant → Option Instant → Option Instant
start_after (Some start) moment = Some start
start_after None moment = moment

-- the number of a reading that gave this time, or none: the microseconds since the first time; the
-- number before, at first 0, where it gave none, and at the first one
abbrev pub number_after : Option Instant → ℕ → Option Instant → ℕ
number_after (Some start) last (Some moment) = micros_between start moment
number_after (Some start) last None = last
number_after None last moment = last

-- a reading gave this time, or none, and made this number
pub record CountsReading {R : Type 0} (old new : RunClock R) (moment : Option Instant)
    (number : ℕ) : Type 0 where
  pub start : new.start ≡ start_after old.start moment
  pub last : new.last ≡ number
  pub number_is : number ≡ number_after old.start old.last moment
