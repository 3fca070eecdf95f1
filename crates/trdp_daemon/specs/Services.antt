-- A service on its way.
use Rattle.std.specs.Prelude.{◌≡◌, ◌<◌, ◌≤◌, ◌+◌, ℕ, Bool, List, Option, [], ◌∷◌, length, map}
use Rattle.std.specs.Prelude.{vec_capacity}
use Rattle.trdp_dataset.specs.Configs.{ConfigModel}
use Rattle.trdp_engine.specs.NodeStates.{uncounted}
use Rattle.trdp_model.specs.Events.{EventModel}
use Rattle.trdp_wire.specs.declared.port.Port.{Port}
use Rattle.trdp_wire.specs.declared.port.Port.TheVariants.{Pd, Md}
use Rattle.trdp_daemon.specs.declared.home.HomePlaces.{HomePlaces}
use Rattle.trdp_daemon.specs.declared.link.Link.{Link}
use Rattle.trdp_daemon.specs.declared.service.Service.{Service}
use Rattle.trdp_wire.specs.Ports.{place_of_port}
use Rattle.trdp_wire.specs.Told.{Taking, Give}
use Rattle.trdp_daemon.specs.Effects.{ServiceState, Effect, Loss, TextsLost, event_effect}
use Rattle.trdp_daemon.specs.Counted.{TurnCounted, VisitsCounted}
use Rattle.trdp_daemon.specs.Counting.{totals_after}
use Rattle.trdp_daemon.specs.Links.{Carries}
use Rattle.trdp_daemon.specs.Questions.{frame_room}
use Rattle.trdp_daemon.specs.Turns.{Visit, visit_effect, visits_effect, Turn, takings_of}
use Rattle.trdp_daemon.specs.Turns.{turn_effect, port_and_room, with_room, TakesAt, TurnTakesAt}

-- the node, in which nothing says what an event cost, its slots' latest lines, the reading of the
-- latest turn, and the lease
abbrev pub service_state : Service → ServiceState
service_state s = record {
  node = uncounted s.node;
  contacts = s.contacts.items;
  reading = s.reading;
  lease = s.lease;
}

-- a service and its link after these takes and this effect
pub record Comes {W : Type 0} (takings_in : W → Option (List Taking))
    (gives_in : W → Option (List Give)) (old new : Service) (link link_then : Link W)
    (takings : List Taking) (effect : Effect) : Type 0 where
  pub service_is : service_state new ≡ effect.service
  pub carried : Carries takings_in gives_in link link_then takings effect.telling

-- the same of an effect that some loss decides
pub record ComesWith {W : Type 0} (takings_in : W → Option (List Taking))
    (gives_in : W → Option (List Give)) (old new : Service) (link link_then : Link W)
    (effect : Loss → Effect) : Type 0 where
  pub loss : Loss
  pub comes : Comes takings_in gives_in old new link link_then [] (effect loss)

-- an event was taken, or rejected, and its records were offered but for some texts
pub record ComesTold {W : Type 0} (takings_in : W → Option (List Taking))
    (gives_in : W → Option (List Give)) (old new : Service) (link link_then : Link W)
    (event : EventModel) : Type 0 where
  pub marks : List Bool
  pub comes : Comes takings_in gives_in old new link link_then []
      (event_effect (service_state old) event (TextsLost marks))

-- one take was made at the port, with the room of a take, and nothing else
pub record TakesOnce {W : Type 0} (takings_in : W → Option (List Taking))
    (gives_in : W → Option (List Give)) (old new : Service) (link link_then : Link W)
    (port : Port) : Type 0 where
  pub visit : Visit
  pub port_is : port_and_room visit ≡ with_room port
  pub counted : visit.totals ≡ totals_after link.totals (visit.taking ∷ []) [] 0
  pub comes : Comes takings_in gives_in old new link link_then (visit.taking ∷ [])
      (visit_effect (service_state old) visit)

-- takes were made at those of these ports that are there when their turn in the order comes, and
-- nothing else
pub record TakesAtPorts {W : Type 0} (takings_in : W → Option (List Taking))
    (gives_in : W → Option (List Give)) (old new : Service) (link link_then : Link W)
    (ports : List Port) : Type 0 where
  pub visits : List Visit
  pub takes_at : TakesAt ports (service_state old) visits
  pub comes : Comes takings_in gives_in old new link link_then
      (map (λ visit. visit.taking) visits) (visits_effect (service_state old) visits)
  pub counted : VisitsCounted link.totals (service_state old) visits comes.carried.gives

-- a turn was taken at this reading of the clock, with takes at those of these ports that are there
-- when their turn in the order comes
pub record TakesTurn {W : Type 0} (takings_in : W → Option (List Taking))
    (gives_in : W → Option (List Give)) (old new : Service) (link link_then : Link W)
    (ports : List Port) (reading : ℕ) : Type 0 where
  pub turn : Turn
  pub reading_is : turn.reading ≡ reading
  pub takes_at : TurnTakesAt ports (service_state old) turn
  pub comes : Comes takings_in gives_in old new link link_then (takings_of turn)
      (turn_effect (service_state old) turn)
  pub counted : TurnCounted link.totals (service_state old) turn comes.carried.gives

-- the destinations of process data and of message data that come to this node: where the sockets
-- of these ports are bound
abbrev pub IsHome : ConfigModel → HomePlaces → Type 0
IsHome config home = (home.pd ≡ place_of_port config Pd) × (home.md ≡ place_of_port config Md)

-- telegrams go to where the node's configuration says, and there is room for any answer to the
-- operator's questions, and for that to the reset of a slot
abbrev pub IsSoundService : Service → Type 0
IsSoundService s = IsHome s.node.config s.home × (frame_room ≤ vec_capacity s.answer)
    × (0 < s.resets.row_room + length s.resets.records)
