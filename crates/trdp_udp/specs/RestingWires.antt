-- What a wire that rests does at a take and at a rest.
use Rattle.std.specs.Prelude.{◌≡◌, ℕ, List, Bool, true, false, ◌||◌}
use Rattle.std.specs.Prelude.{Option, Some, None, Result, Ok, slice_set}
use Rattle.trdp_base.specs.declared.place.Place.{Place}
use Rattle.trdp_wire.specs.declared.fault.WireFault.{WireFault}
use Rattle.trdp_wire.specs.declared.port.Port.{Port}
use Rattle.trdp_udp.specs.declared.resting_wire.RestingWire.{RestingWire}
use Rattle.trdp_wire.specs.News.{WaitsForNews, has_news, news_after}
use Rattle.trdp_udp.specs.declared.rest_step.RestStep.{RestStep}
use Rattle.trdp_udp.specs.declared.rest_step.RestStep.TheVariants.{GoOn, Look, Sleep, Wait}
use Rattle.trdp_udp.specs.RestSteps.{PausesSo, ReadsSo, is_rest, rest_left, step_of}
use Rattle.trdp_wire.specs.Sockets.{SocketCall, socket_of}
use Rattle.trdp_udp.specs.SocketWires.{TakesAtSocket}

-- there are news of a port where there are news of its socket
abbrev pub news_at : {S C : Type 0} → RestingWire S C → Port → Bool
news_at wire port = has_news wire.news (socket_of wire.wire.groups port)

-- something may be at a port, where it is to be looked at anew
abbrev pub renewed : {S C : Type 0} → (anew : Bool) → Port → RestingWire S C → RestingWire S C
renewed false port wire = wire
renewed true port wire =
    record wire { news = slice_set wire.news (socket_of wire.wire.groups port) true }

-- each step of a rest asks the system for news, except where it goes on: a look and a sleep by a
-- wait of no time, which ends at once
abbrev pub AsksInStep : RestStep → (calls calls_then : Option (List SocketCall))
    → (news news_then : List Bool) → Type 0
AsksInStep GoOn calls calls_then news news_then = (calls_then ≡ calls) × (news_then ≡ news)
AsksInStep Look calls calls_then news news_then = WaitsForNews 0 calls calls_then news news_then
AsksInStep (Sleep micros) calls calls_then news news_then =
    WaitsForNews 0 calls calls_then news news_then
AsksInStep (Wait millis) calls calls_then news news_then =
    WaitsForNews millis calls calls_then news news_then

-- a take where there are news is one at the port's socket; the news are over where nothing was
-- heard
pub record TakesAtNews {S C : Type 0} (calls_of : S → Option (List SocketCall))
    (old new : RestingWire S C) (port : Port) (room : List ℕ)
    (result : Result (Option (Place × ℕ)) WireFault) : Type 0 where
  pub heard : Bool
  pub takes : TakesAtSocket old.wire.groups (calls_of old.wire.sockets)
      (calls_of new.wire.sockets) port room result old.wire.failures new.wire.failures heard
      old.wire.unread new.wire.unread
  pub is : new ≡ record old {
    wire = record old.wire {
      sockets = new.wire.sockets;
      failures = new.wire.failures;
      unread = new.wire.unread;
    };
    heard = old.heard || heard;
    news = news_after heard (socket_of old.wire.groups port) old.news;
  }

-- a take where there are none asks nothing, and finds nothing
abbrev pub TakesIfNews : {S C : Type 0} → Bool → (S → Option (List SocketCall))
    → (old new : RestingWire S C) → Port → (room : List ℕ)
    → Result (Option (Place × ℕ)) WireFault → Type 0
TakesIfNews true calls_of old new port room result =
    TakesAtNews calls_of old new port room result
TakesIfNews false calls_of old new port room result = (result ≡ Ok None) × (new ≡ old)

-- a rest of at most that many microseconds: its step is that of what is left of it
pub record RestsSo {S C : Type 0} (calls_of : S → Option (List SocketCall))
    (readings_of sleeps_of : C → Option (List ℕ)) (old new : RestingWire S C) (most : ℕ)
    : Type 0 where
  pub began : ℕ
  pub ended : ℕ
  pub step : RestStep
  pub step_is : step ≡ step_of old.heard (rest_left old.rested began most) old.is_first
  pub reads : ReadsSo (is_rest step) began ended (readings_of old.clock) (readings_of new.clock)
  pub pauses : PausesSo step began (sleeps_of old.clock) (sleeps_of new.clock) old.busy new.busy
  pub asks : AsksInStep step (calls_of old.wire.sockets)
      (calls_of new.wire.sockets) old.news new.news
  pub is : new ≡ record old {
    wire = record old.wire { sockets = new.wire.sockets };
    clock = new.clock;
    news = new.news;
    heard = false;
    is_first = is_rest step;
    busy = new.busy;
    rested = Some ended;
  }

-- a wire before its first take, with this clock: something may be at each socket
pub record HasTakenNothing {S C : Type 0} (clock : C) (wire : RestingWire S C) : Type 0 where
  pub clock_is : wire.clock ≡ clock
  pub news : (socket : ℕ) → has_news wire.news socket ≡ true
  pub heard : wire.heard ≡ false
  pub is_first : wire.is_first ≡ true
  pub busy : wire.busy ≡ None
  pub rested : wire.rested ≡ None
  pub failures : wire.wire.failures ≡ 0
  pub refusal : wire.wire.refusal ≡ None
  pub unread : wire.wire.unread ≡ None
