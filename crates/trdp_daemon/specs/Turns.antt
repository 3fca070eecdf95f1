-- A daemon's turns.
use Rattle.std.specs.Prelude.{◌≡◌, ℕ, nat_lt, Bool, true, false, List, [], ◌∷◌, length, map}
use Rattle.std.specs.Prelude.{Option, None, min, max, replicate}
use Rattle.trdp_base.specs.Limits.{line_limit}
use Rattle.trdp_base.specs.Moments.{last_moment}
use Rattle.trdp_dataset.specs.Configs.{ConfigModel}
use Rattle.trdp_model.specs.Events.{EventModel, MomentIs}
use Rattle.trdp_model.specs.NodeModels.{NodeModel, opened_model}
use Rattle.trdp_model.specs.Slots.{slot_limit}
use Rattle.trdp_daemon.specs.declared.contact.Contact.{Contact}
use Rattle.trdp_wire.specs.declared.port.Port.{Port}
use Rattle.trdp_wire.specs.declared.port.Port.TheVariants.{Pd, Md, PdGroup, MdGroup}
use Rattle.trdp_wire.specs.declared.port.Port.TheVariants.{Operator, Control}
use Rattle.trdp_daemon.specs.declared.totals.Totals.{Totals}
use Rattle.trdp_wire.specs.Told.{Taking, Offer}
use Rattle.trdp_daemon.specs.Effects.{ServiceState, Effect, Loss, TextsLost, still, then_effect}
use Rattle.trdp_daemon.specs.Effects.{event_effect}
use Rattle.trdp_daemon.specs.Visits.{taking_effect}

-- one take, what was lost of its datagram, and what was counted as it was answered, this take
-- included
pub record Visit : Type 0 where
  pub taking : Taking
  pub loss : Loss
  pub totals : Totals

-- one turn: a reading of the clock, what was lost of its moment, and a take at each port
pub record Turn : Type 0 where
  pub reading : ℕ
  pub loss : Loss
  pub visits : List Visit

-- the moment of a reading: never before the node's, nor past the last one
abbrev pub moment_of : NodeModel → ℕ → EventModel
moment_of node reading = MomentIs (max node.globals.now (min reading last_moment))

abbrev pub visit_effect : ServiceState → Visit → Effect
visit_effect service visit = taking_effect service visit.totals visit.taking.port
    visit.taking.ended visit.taking.arrived visit.loss

-- takes one after another
abbrev pub visits_effect : ServiceState → List Visit → Effect
visits_effect service [] = still service
visits_effect service (visit ∷ visits) =
    then_effect (visit_effect service visit) (λ after. visits_effect after visits)

-- a turn begins at a reading of the clock
abbrev pub begun : ServiceState → ℕ → ServiceState
begun service reading = record service { reading = reading }

-- the moment of a turn
abbrev pub moment_effect : ServiceState → Turn → Effect
moment_effect service turn = event_effect (begun service turn.reading)
    (moment_of service.node turn.reading) turn.loss

-- a turn: first the moment, and then each datagram
abbrev pub turn_effect : ServiceState → Turn → Effect
turn_effect service turn =
    then_effect (moment_effect service turn) (λ after. visits_effect after turn.visits)

-- turns one after another
abbrev pub turns_effect : ServiceState → List Turn → Effect
turns_effect service [] = still service
turns_effect service (turn ∷ turns) =
    then_effect (turn_effect service turn) (λ after. turns_effect after turns)

-- the takes of a turn
abbrev pub takings_of : Turn → List Taking
takings_of turn = map (λ visit. visit.taking) turn.visits

-- the room of a take, in bytes: for any line of a control connection, and for any datagram over UDP
abbrev pub take_room : ℕ
take_room = line_limit

-- the port of a take, and how many bytes it has room for
abbrev pub port_and_room : Visit → Port × ℕ
port_and_room visit = (visit.taking.port, visit.taking.room)

-- a port, with the room of a take
abbrev pub with_room : Port → Port × ℕ
with_room port = (port, take_room)

-- whether a node has a port: a control port has to be that of an open slot
abbrev pub is_there : NodeModel → Port → Bool
is_there node Pd = true
is_there node Md = true
is_there node (PdGroup group) = true
is_there node (MdGroup group) = true
is_there node Operator = true
is_there node (Control slot) = nat_lt slot (length node.slots)

-- where a port is there, the first of these takes is at it, with the room of a take, and Later
-- holds of those after it and the service then; where it isn't, Later holds of all
abbrev pub TakesFirst : Bool → Port → (ServiceState → List Visit → Type 0)
    → ServiceState → List Visit → Type 0
TakesFirst false port Later service visits = Later service visits
TakesFirst true port Later service [] = ⊥
TakesFirst true port Later service (visit ∷ visits) =
    (port_and_room visit ≡ with_room port) × Later (visit_effect service visit).service visits

-- from a service on, these are takes at each of the ports that is there when its turn in the order
-- comes, once and in their order, each with the room of a take
abbrev pub TakesAt : List Port → ServiceState → List Visit → Type 0
TakesAt [] service visits = visits ≡ []
TakesAt (port ∷ ports) service visits =
    TakesFirst (is_there service.node port) port (TakesAt ports) service visits

-- the same of a turn, after its moment
abbrev pub TurnTakesAt : List Port → ServiceState → Turn → Type 0
TurnTakesAt ports service turn =
    TakesAt ports (moment_effect service turn).service turn.visits

-- the same of turns one after another
abbrev pub AllTakeAt : List Port → ServiceState → List Turn → Type 0
AllTakeAt ports service [] = Unit {0}
AllTakeAt ports service (turn ∷ turns) =
    TurnTakesAt ports service turn × AllTakeAt ports (turn_effect service turn).service turns

-- a turn takes once at each of these ports, in their order, each time with the room of a take
abbrev pub TakesAtEach : List Port → Turn → Type 0
TakesAtEach ports turn = map port_and_room turn.visits ≡ map with_room ports

-- none of the slots that a node may have had a line
abbrev pub no_contacts : List (Option Contact)
no_contacts = replicate slot_limit None

-- a node that was just opened, no slot of which had a line, with this lease
abbrev pub opened_service : ConfigModel → Option ℕ → ServiceState
opened_service config lease = record {
  node = opened_model config;
  contacts = no_contacts;
  reading = 0;
  lease = lease;
}

-- all that a daemon of a configuration and a lease offers in these turns, its first
abbrev pub offers_of : ConfigModel → Option ℕ → List Turn → List Offer
offers_of config lease turns = (turns_effect (opened_service config lease) turns).telling.offers

-- how many entries it loses in them where an allocation fails
abbrev pub missed_of : ConfigModel → Option ℕ → List Turn → ℕ
missed_of config lease turns = (turns_effect (opened_service config lease) turns).telling.missed

-- the same take, or turn, with nothing lost
abbrev pub unlost_visit : Visit → Visit
unlost_visit visit = record visit { loss = TextsLost [] }

abbrev pub unlost : Turn → Turn
unlost turn = record {
  reading = turn.reading;
  loss = TextsLost [];
  visits = map unlost_visit turn.visits;
}
