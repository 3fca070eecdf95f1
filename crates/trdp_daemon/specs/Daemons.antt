-- A daemon, and what its turns do to it.
use Rattle.std.specs.Prelude.{◌≡◌, ℕ, List, Option, length, map}
use Rattle.std.specs.List.{flat_map}
use Rattle.trdp_dataset.specs.Configs.{ConfigModel}
use Rattle.trdp_daemon.specs.declared.totals.Totals.{Totals}
use Rattle.trdp_base.specs.Reported.{TellsMore}
use Rattle.trdp_wire.specs.Told.{Taking, Give}
use Rattle.trdp_daemon.specs.Counted.{TurnsCounted}
use Rattle.trdp_daemon.specs.Counting.{no_totals, totals_after}
use Rattle.trdp_daemon.specs.Effects.{ServiceState}
use Rattle.trdp_wire.specs.Ports.{ports_of}
use Rattle.trdp_daemon.specs.Turns.{Turn, AllTakeAt, takings_of, turns_effect, opened_service}
use Rattle.trdp_daemon.specs.Turns.{offers_of, missed_of}

-- a daemon: its node and what it knows of the slots' applications, its wire, its clock, what it
-- counted, and how long the wire's latest rest was asked for, in microseconds; 0 before the first
pub record DaemonState (W C : Type 0) : Type 0 where
  pub service : ServiceState
  pub wire : W
  pub clock : C
  pub totals : Totals
  pub asked : ℕ

-- a daemon that was just made
abbrev pub opened_daemon : {W C : Type 0} → ConfigModel → Option ℕ → W → C → DaemonState W C
opened_daemon config lease wire clock = record {
  service = opened_service config lease;
  wire = wire;
  clock = clock;
  totals = no_totals;
  asked = 0;
}

-- n turns were taken, each with one reading of the clock and one take at each port that is there,
-- in order. The gives are exactly what the turns offer, whatever they answered. An answer to the
-- operator has the totals as they were at its take. The wire reports its takes and gives, and the
-- clock its readings, by these functions
pub record TakesTurns {W C : Type 0} (takings_in : W → Option (List Taking))
    (gives_in : W → Option (List Give)) (readings_in : C → Option (List ℕ)) (n : ℕ)
    (old new : DaemonState W C) : Type 0 where
  pub turns : List Turn
  pub gives : List Give
  pub count : length turns ≡ n
  pub ports : AllTakeAt (ports_of old.service.node.config) old.service turns
  pub read : TellsMore (readings_in old.clock) (readings_in new.clock)
      (map (λ turn. turn.reading) turns)
  pub took : TellsMore (takings_in old.wire) (takings_in new.wire) (flat_map takings_of turns)
  pub gave : TellsMore (gives_in old.wire) (gives_in new.wire) gives
  pub offers : map (λ give. give.offer) gives ≡ (turns_effect old.service turns).telling.offers
  pub service : new.service ≡ (turns_effect old.service turns).service
  pub config : new.service.node.config ≡ old.service.node.config
  pub totals : new.totals ≡ totals_after old.totals (flat_map takings_of turns) gives
      (turns_effect old.service turns).telling.missed
  pub counted : TurnsCounted old.totals old.service turns gives

-- a daemon of this configuration and lease has taken n turns since it was made with this wire and
-- clock, each with one reading of the clock and one take at each port that is there, in order. The
-- list of its offers is that of these turns, whatever the gives answered. An answer to the
-- operator has the totals as they were at its take. Its totals count the datagrams that came, the
-- gives, those that failed, the takes that failed, and the entries that were lost where an
-- allocation failed
pub record HasServed {W C : Type 0} (takings_in : W → Option (List Taking))
    (gives_in : W → Option (List Give)) (readings_in : C → Option (List ℕ))
    (config : ConfigModel) (lease : Option ℕ) (wire : W) (clock : C) (n : ℕ)
    (daemon : DaemonState W C) : Type 0 where
  pub turns : List Turn
  pub gives : List Give
  pub count : length turns ≡ n
  pub ports : AllTakeAt (ports_of config) (opened_service config lease) turns
  pub read : TellsMore (readings_in clock) (readings_in daemon.clock)
      (map (λ turn. turn.reading) turns)
  pub took : TellsMore (takings_in wire) (takings_in daemon.wire) (flat_map takings_of turns)
  pub gave : TellsMore (gives_in wire) (gives_in daemon.wire) gives
  pub offers : map (λ give. give.offer) gives ≡ offers_of config lease turns
  pub service : daemon.service ≡ (turns_effect (opened_service config lease) turns).service
  pub config_is : daemon.service.node.config ≡ config
  pub totals : daemon.totals
      ≡ totals_after no_totals (flat_map takings_of turns) gives (missed_of config lease turns)
  pub counted : TurnsCounted no_totals (opened_service config lease) turns gives
