-- A daemon that rests between its turns.
use Rattle.std.specs.Prelude.{◌≡◌, ◌⊎◌, ℕ, zero, suc, ◌+◌, ◌<◌, ◌≤◌, ◌^◌, ◌-◌, List, [], ◌∷◌, ◌++◌}
use Rattle.std.specs.Prelude.{Option, Some, None, false, length, map, min, nat_le}
use Rattle.std.specs.List.{list_any}
use Rattle.trdp_dataset.specs.Configs.{ConfigModel}
use Rattle.trdp_model.specs.NodeModels.{IsNextDue}
use Rattle.trdp_model.specs.Slots.{SlotState}
use Rattle.trdp_wire.specs.Told.{Taking, Give}
use Rattle.trdp_daemon.specs.Turns.{Turn}
use Rattle.trdp_daemon.specs.Daemons.{DaemonState, TakesTurns, HasServed}

-- the moment at which a rest ends at the latest: the next one at which something is due, or
-- `until`
abbrev pub rest_end : ℕ → Option ℕ → ℕ
rest_end until None = until
rest_end until (Some due) = min due until

-- how many microseconds from a reading of the clock nothing is due in these slots, up to `until`
pub record IsIdleTime (slots : List SlotState) (reading until time : ℕ) : Type 0 where
  pub next : Option ℕ
  pub is_next : IsNextDue slots next
  pub time_is : time ≡ rest_end until next - reading

-- the wire was asked for one rest, as long as nothing is due from this reading of the clock on, up
-- to `until`; nothing was taken, given, counted or read. The wire says by this function what a rest
-- makes of it
pub record Rests {W C : Type 0} (takings_in : W → Option (List Taking))
    (gives_in : W → Option (List Give)) (rested_in : W → W → ℕ → Type 0) (reading until : ℕ)
    (old new : DaemonState W C) : Type 0 where
  pub asked : IsIdleTime old.service.node.slots reading until new.asked
  pub rested : rested_in old.wire new.wire new.asked
  pub takes_nothing : takings_in new.wire ≡ takings_in old.wire
  pub gives_nothing : gives_in new.wire ≡ gives_in old.wire
  pub service : new.service ≡ old.service
  pub clock : new.clock ≡ old.clock
  pub totals : new.totals ≡ old.totals

-- one turn was taken, at this reading of the clock
pub record TakesTurnAt {W C : Type 0} (takings_in : W → Option (List Taking))
    (gives_in : W → Option (List Give)) (readings_in : C → Option (List ℕ)) (reading : ℕ)
    (old new : DaemonState W C) : Type 0 where
  pub taken : TakesTurns takings_in gives_in readings_in 1 old new
  pub turn : Turn
  pub turn_is : taken.turns ≡ turn ∷ []
  pub reading_is : turn.reading ≡ reading

-- one turn was taken, at a reading of the clock before `until`, and from that reading on the wire
-- was asked for a rest
pub record TurnsAndRests {W C : Type 0} (takings_in : W → Option (List Taking))
    (gives_in : W → Option (List Give)) (rested_in : W → W → ℕ → Type 0) (readings_in : C → Option (List ℕ)) (until : ℕ)
    (old new : DaemonState W C) : Type 0 where
  pub reading : ℕ
  pub early : reading < until
  pub turned : DaemonState W C
  pub turn : TakesTurnAt takings_in gives_in readings_in reading old turned
  pub rest : Rests takings_in gives_in rested_in reading until turned new

-- n such turns, with a rest after each
abbrev pub RestsBehind : {W C : Type 0} → (W → Option (List Taking)) → (W → Option (List Give))
    → (W → W → ℕ → Type 0) → (C → Option (List ℕ)) → ℕ → ℕ → DaemonState W C → DaemonState W C
    → Type 0
RestsBehind takings_in gives_in rested_in readings_in until zero old new = new ≡ old
RestsBehind {W} {C} takings_in gives_in rested_in readings_in until (suc n) old new =
    (before : DaemonState W C)
    × RestsBehind takings_in gives_in rested_in readings_in until n old before
    × TurnsAndRests takings_in gives_in rested_in readings_in until before new

-- all of these turns begin before the reading `until` of the clock
abbrev pub AreEarly : ℕ → List Turn → Type 0
AreEarly until turns = list_any (nat_le until) (map (λ turn. turn.reading) turns) ≡ false

-- n turns were taken, each at a reading of the clock before `until`
pub record TakesEarly {W C : Type 0} (takings_in : W → Option (List Taking))
    (gives_in : W → Option (List Give)) (readings_in : C → Option (List ℕ)) (until n : ℕ)
    (old new : DaemonState W C) : Type 0 where
  pub taken : TakesTurns takings_in gives_in readings_in n old new
  pub early : AreEarly until taken.turns

-- one turn was taken at this reading of the clock, which is `until` or later
pub record TakesLast {W C : Type 0} (takings_in : W → Option (List Taking))
    (gives_in : W → Option (List Give)) (readings_in : C → Option (List ℕ)) (until reading : ℕ)
    (old new : DaemonState W C) : Type 0 where
  pub come : until ≤ reading
  pub takes : TakesTurnAt takings_in gives_in readings_in reading old new

-- the reading of the last of these turns, or of one before them
abbrev pub reading_behind : ℕ → List Turn → ℕ
reading_behind reading [] = reading
reading_behind reading (turn ∷ turns) = reading_behind turn.reading turns

-- the reading of the last of these turns; 0 of none
abbrev pub last_reading : List Turn → ℕ
last_reading turns = reading_behind 0 turns

-- turns were taken until one began at the reading `until` of the clock or later, that one too; or
-- 2^64 - 1 of them, all of which began before. After each but that one the wire was asked for a
-- rest. The last turn began at `reading`
pub record AttendsUntil {W C : Type 0} (takings_in : W → Option (List Taking))
    (gives_in : W → Option (List Give)) (rested_in : W → W → ℕ → Type 0) (readings_in : C → Option (List ℕ)) (until reading : ℕ)
    (old new : DaemonState W C) : Type 0 where
  pub before : ℕ
  pub then_at : DaemonState W C
  pub early : TakesEarly takings_in gives_in readings_in until before old then_at
  pub rested : RestsBehind takings_in gives_in rested_in readings_in until before old then_at
  pub last : TakesLast takings_in gives_in readings_in until reading then_at new
      ⊎ ((before ≡ 2 ^ 64 - 1) × (new ≡ then_at) × (reading ≡ last_reading early.taken.turns))

-- the last of these turns is the first of them that begins at the reading `until` of the clock or
-- later; or there are 2^64 - 1, all of which begin before
pub record EndsAt (until : ℕ) (turns : List Turn) : Type 0 where
  pub early : List Turn
  pub are_early : AreEarly until early
  pub last : ((turn : Turn) × (turns ≡ early ++ turn ∷ []) × (until ≤ turn.reading))
      ⊎ ((turns ≡ early) × (length early ≡ 2 ^ 64 - 1))

-- a daemon that had taken n turns since it was made, these with these gives, has taken more, which
-- end so, the last of them at `reading`
pub record ServesUntil {W C : Type 0} (takings_in : W → Option (List Taking))
    (gives_in : W → Option (List Give)) (readings_in : C → Option (List ℕ))
    (config : ConfigModel) (lease : Option ℕ) (wire : W) (clock : C) (n : ℕ) (turns : List Turn)
    (gives : List Give) (until reading : ℕ) (daemon : DaemonState W C) : Type 0 where
  pub m : ℕ
  pub served : HasServed takings_in gives_in readings_in config lease wire clock
      (n + m) daemon
  pub more : List Turn
  pub more_gives : List Give
  pub turns_are : served.turns ≡ turns ++ more
  pub gives_are : served.gives ≡ gives ++ more_gives
  pub ends : EndsAt until more
  pub reading_is : reading ≡ last_reading served.turns
