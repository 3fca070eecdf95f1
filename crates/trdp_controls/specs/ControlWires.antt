-- What a wire does with its network and its paths.
use Rattle.std.specs.Prelude.{◌≡◌, ℕ, ◌^◌, ◌-◌, ◌&&◌, ◌||◌, not, nat_lt, List, [], ◌∷◌}
use Rattle.std.specs.Prelude.{Option, Some, None, Result, Ok, Err, Bool, true, false}
use Rattle.std.specs.Prelude.{option_map, is_err, if◌then◌else◌}
use Rattle.std.specs.Prelude.{◌<◌, length, slice_index_or, slice_set}
use Rattle.trdp_base.specs.declared.place.Place.{Place}
use Rattle.trdp_lines.specs.Askings.{AsksAll, IfNothing}
use Rattle.trdp_lines.specs.Connections.{ConnectionCall}
use Rattle.trdp_lines.specs.Hearings.{Decides, Hears, has_found, waits_at}
use Rattle.trdp_lines.specs.Seats.{PathState, has_seat}
use Rattle.trdp_lines.specs.Steps.{HandsInNext, SaysToSeat}
use Rattle.trdp_lines.specs.declared.rule.Rule.{Rule}
use Rattle.trdp_lines.specs.declared.rule.Rule.TheVariants.{Application, Operators}
use Rattle.trdp_lines.specs.declared.path_fault.AcceptFault.{AcceptFault}
use Rattle.trdp_lines.specs.declared.path_fault.LostText.{LostText}
use Rattle.trdp_wire.specs.declared.fault.WireFault.{WireFault}
use Rattle.trdp_wire.specs.declared.port.Port.{Port}
use Rattle.trdp_wire.specs.declared.port.Port.TheVariants.{Pd, Md, PdGroup, MdGroup}
use Rattle.trdp_wire.specs.declared.port.Port.TheVariants.{Operator, Control}
use Rattle.trdp_controls.specs.declared.control_wire.ControlWire.{ControlWire}
use Rattle.trdp_wire.specs.News.{IsNoted}
use Rattle.trdp_wire.specs.Ports.{are_apart}
use Rattle.trdp_base.specs.Reported.{TellsMore}
use Rattle.trdp_wire.specs.Told.{Give, Taking, arrived_in, give_of, stands_for_end}
use Rattle.trdp_wire.specs.Told.{taking_of}
use Rattle.trdp_controls.specs.Places.{number_of_place, place_of_number}

-- what was found at a take; a fault is nothing
abbrev pub found_in : {X E : Type 0} → Result (Option X) E → Option X
found_in (Ok found) = found
found_in (Err fault) = None

-- a connection's number and how many bytes of it came, as the place where they came from
abbrev pub found_place : ℕ × ℕ → Place × ℕ
found_place found = (place_of_number found.0, found.1)

-- a take at one of the network's ports is a take of the network, which finds the end of an
-- application or not; it fails if that did, unless the count of failures is at its last value
pub record TakesOverNetwork (takings takings_then : Option (List Taking)) (port : Port)
    (ended : Bool) (result : Result (Option (Place × ℕ)) WireFault)
    (room_then : List ℕ) (failures : ℕ) : Type 0 where
  pub answer : Result (Option (Place × ℕ)) WireFault
  pub told : TellsMore takings takings_then (taking_of port (λ place. ended) answer room_then ∷ [])
  pub found : found_in result ≡ found_in answer
  pub fault : is_err result ≡ is_err answer && nat_lt failures (2 ^ 64 - 1)

-- a give at one of the network's ports is a give of the network
pub record GivesOverNetwork (gives gives_then : Option (List Give)) (port : Port) (to : Place)
    (bytes : List ℕ) (result : Result (Unit {0}) WireFault) (failures : ℕ) : Type 0 where
  pub answer : Result (Unit {0}) WireFault
  pub told : TellsMore gives gives_then (give_of port to bytes answer ∷ [])
  pub fault : is_err result ≡ is_err answer && nat_lt failures (2 ^ 64 - 1)

-- the path of a slot's control port, if it has one
abbrev pub control_at : {C : Type 0} → List (Option (PathState C)) → ℕ → Option (PathState C)
control_at controls slot = slice_index_or controls slot None

-- a take at a path handed in what is next there, from the place of the connection that says it;
-- it fails if the system refused a connection and nothing is there, unless the count of failures
-- is at its last value. Whether something was heard there
pub record TakesText {C : Type 0} (rule : Rule) (calls_of : C → Option (List ConnectionCall))
    (path path_then : PathState C) (room : ℕ) (result : Result (Option (Place × ℕ)) WireFault)
    (heard : Bool) (room_then : List ℕ) (failures : ℕ) : Type 0 where
  pub taken : Result (Option (ℕ × ℕ)) AcceptFault
  pub next : HandsInNext rule calls_of path path_then room (found_in taken) room_then
  pub asked : IfNothing taken (AsksAll rule calls_of path path_then)
  pub decided : IfNothing taken (λ _. Decides
      (calls_of path.connections) (calls_of path_then.connections) path_then.waiting)
  pub hears : Hears (calls_of path.connections) (calls_of path_then.connections)
      (has_found taken || path.heard || waits_at rule path.waiting) heard
  pub forgotten : path_then.heard ≡ false
  pub answer : found_in result ≡ option_map found_place (found_in taken)
  pub fault : is_err result ≡ is_err taken && nat_lt failures (2 ^ 64 - 1)

-- the same of a port that may have no path, where nothing ever comes
abbrev pub TakesAtPath : {C : Type 0} → Rule → (calls_of : C → Option (List ConnectionCall))
    → (path path_then : Option (PathState C)) → (room : ℕ)
    → Result (Option (Place × ℕ)) WireFault → (heard : Bool) → (room_then : List ℕ)
    → (failures : ℕ) → Type 0
TakesAtPath rule calls_of None path_then room result heard room_then failures =
    (result ≡ Ok None) × (heard ≡ false) × (path_then ≡ None)
TakesAtPath rule calls_of (Some path) None room result heard room_then failures = ⊥
TakesAtPath rule calls_of (Some path) (Some path_then) room result heard room_then failures =
    TakesText rule calls_of path path_then room result heard room_then failures

-- a take at the control port of a slot is one at its path, and of all paths it changes this alone
pub record TakesAtControl {C : Type 0} (calls_of : C → Option (List ConnectionCall)) (slot : ℕ)
    (controls controls_then : List (Option (PathState C))) (room : ℕ)
    (result : Result (Option (Place × ℕ)) WireFault) (heard : Bool) (room_then : List ℕ)
    (failures : ℕ) : Type 0 where
  pub path_then : Option (PathState C)
  pub takes : TakesAtPath Application calls_of (control_at controls slot) path_then room result
      heard room_then failures
  pub others : controls_then ≡ slice_set controls slot path_then

-- a text for a place was said to the connection of that place, if there is a path, and it has a
-- seat there
abbrev pub SaysAtPath : {C : Type 0} → (calls_of : C → Option (List ConnectionCall))
    → (path path_then : Option (PathState C)) → (to : Place) → (text : List ℕ)
    → Result (Unit {0}) LostText → Type 0
SaysAtPath calls_of None path_then to text result = (result ≡ Ok tt) × (path_then ≡ None)
SaysAtPath calls_of (Some path) None to text result = ⊥
SaysAtPath calls_of (Some path) (Some path_then) to text result =
    SaysToSeat (calls_of path.connections) (calls_of path_then.connections)
    (has_seat (number_of_place to) path.seats) (number_of_place to) text path.seats
    path_then.seats result

-- a text was said at the path of a slot, and of all paths it changed this alone
pub record SaysAtControl {C : Type 0} (calls_of : C → Option (List ConnectionCall)) (slot : ℕ)
    (controls controls_then : List (Option (PathState C))) (to : Place) (text : List ℕ)
    (result : Result (Unit {0}) LostText) : Type 0 where
  pub path_then : Option (PathState C)
  pub says : SaysAtPath calls_of (control_at controls slot) path_then to text result
  pub others : controls_then ≡ slice_set controls slot path_then

-- the same, and a text that is lost is a fault, unless the count of failures is at its last value
pub record GivesAtControl {C : Type 0} (calls_of : C → Option (List ConnectionCall)) (slot : ℕ)
    (controls controls_then : List (Option (PathState C))) (to : Place) (text : List ℕ)
    (result : Result (Unit {0}) WireFault) (failures : ℕ) : Type 0 where
  pub answer : Result (Unit {0}) LostText
  pub says : SaysAtControl calls_of slot controls controls_then to text answer
  pub fault : is_err result ≡ is_err answer && nat_lt failures (2 ^ 64 - 1)

-- a take at the operator's port is one at its path
abbrev pub TakesAtOperator : {C : Type 0} → (calls_of : C → Option (List ConnectionCall))
    → (operator operator_then : Option (PathState C)) → (room : ℕ)
    → Result (Option (Place × ℕ)) WireFault → (heard : Bool) → (room_then : List ℕ)
    → (failures : ℕ) → Type 0
TakesAtOperator = TakesAtPath Operators

-- a text was said at the operator's path; a text that is lost is a fault, unless the count of
-- failures is at its last value
pub record GivesAtOperator {C : Type 0} (calls_of : C → Option (List ConnectionCall))
    (operator operator_then : Option (PathState C)) (to : Place) (text : List ℕ)
    (result : Result (Unit {0}) WireFault) (failures : ℕ) : Type 0 where
  pub answer : Result (Unit {0}) LostText
  pub says : SaysAtPath calls_of operator operator_then to text answer
  pub fault : is_err result ≡ is_err answer && nat_lt failures (2 ^ 64 - 1)

-- whether the application at a path has ended that was at this place: its connection has no seat there
abbrev pub has_ended_at : {C : Type 0} → Option (PathState C) → Place → Bool
has_ended_at None place = false
has_ended_at (Some path) place = not (has_seat (number_of_place place) path.seats)

-- nothing was taken from the network, and nothing given to it; the ports that are apart from this
-- one keep their news
pub record IsUnasked {N : Type 0} (takings_in : N → Option (List Taking))
    (gives_in : N → Option (List Give)) (news_in : N → Port → Bool) (port : Port)
    (network network_then : N) : Type 0 where
  pub takings : takings_in network_then ≡ takings_in network
  pub gives : gives_in network_then ≡ gives_in network
  pub news : (other : Port) → are_apart port other ≡ true
      → news_in network_then other ≡ news_in network other

-- whether more may be at a port is noted if it is looked at anew or nothing may be there; else its
-- news stays
abbrev pub NotesIf : Bool → (may_be old new : Bool) → Type 0
NotesIf true may_be old new = IsNoted may_be old new
NotesIf false may_be old new = new ≡ old

-- a take at the path of a port that was looked at, anew or not, if it is there: more may be there
-- if something was heard, or it failed. The wire has heard something if the path did
pub record HearsAtPath {N C : Type 0} (news_in : N → Port → Bool) (there : Type 0)
    (anew : Bool) (port : Port) (fault heard : Bool) (old new : ControlWire N C) : Type 0 where
  pub hears : new.heard ≡ old.heard || heard
  pub noted : there → NotesIf (anew || not (heard || fault)) (heard || fault)
      (news_in old.network port) (news_in new.network port)

-- a take at the operator's path, which is looked at; of all else that of the wire stays
pub record TakesOperator {N C : Type 0} (takings_in : N → Option (List Taking))
    (gives_in : N → Option (List Give)) (news_in : N → Port → Bool)
    (calls_of : C → Option (List ConnectionCall)) (anew : Bool) (old new : ControlWire N C)
    (room : ℕ) (result : Result (Option (Place × ℕ)) WireFault) (room_then : List ℕ)
    : Type 0 where
  pub heard : Bool
  pub takes : TakesAtOperator calls_of old.operator new.operator room result heard room_then
      old.failures
  pub hears : HearsAtPath news_in (Unit {0}) anew Operator (is_err result) heard old new
  pub unasked : IsUnasked takings_in gives_in news_in Operator old.network new.network
  pub controls : new.controls.items ≡ old.controls.items

-- the same at the path of a slot
pub record TakesControl {N C : Type 0} (takings_in : N → Option (List Taking))
    (gives_in : N → Option (List Give)) (news_in : N → Port → Bool)
    (calls_of : C → Option (List ConnectionCall)) (anew : Bool) (slot : ℕ)
    (old new : ControlWire N C) (room : ℕ) (result : Result (Option (Place × ℕ)) WireFault)
    (room_then : List ℕ) : Type 0 where
  pub heard : Bool
  pub takes : TakesAtControl calls_of slot old.controls.items new.controls.items room result heard
      room_then old.failures
  pub hears : HearsAtPath news_in (slot < length old.controls.items) anew (Control slot)
      (is_err result) heard old new
  pub unasked : IsUnasked takings_in gives_in news_in (Control slot) old.network new.network
  pub operator : new.operator ≡ old.operator

-- a take at the path of a port that is looked at, and one at a port that isn't
abbrev pub IfLooks : {N C : Type 0} → Bool → (old new : ControlWire N C)
    → Result (Option (Place × ℕ)) WireFault → (ended : Bool) → Type 0 → Type 0
IfLooks true old new result ended Takes = Takes
IfLooks false old new result ended Takes = (result ≡ Ok None) × (ended ≡ false) × (new ≡ old)

-- a take at one of the network's ports, which gives nothing, and changes no path
abbrev pub TakesTelegram : {N C : Type 0} → (takings_in : N → Option (List Taking))
    → (gives_in : N → Option (List Give)) → (old new : ControlWire N C) → Port
    → Result (Option (Place × ℕ)) WireFault → (ended : Bool) → (room_then : List ℕ) → Type 0
TakesTelegram takings_in gives_in old new port result ended room_then =
    TakesOverNetwork (takings_in old.network) (takings_in new.network) port ended result
    room_then old.failures
    × TellsMore (gives_in old.network) (gives_in new.network) []
    × (new.operator ≡ old.operator) × (new.controls.items ≡ old.controls.items)
    × (new.heard ≡ old.heard)

-- a take at a port: of the network, or at the operator's path or that of a slot, and nowhere else;
-- at a path that isn't looked at nothing is asked, and nothing found. It finds the end of an
-- application if the network's take does, or if what came at the path of a slot is from a
-- connection that has no seat any more
abbrev pub TakesAtPort : {N C : Type 0} → (takings_in : N → Option (List Taking))
    → (gives_in : N → Option (List Give)) → (news_in : N → Port → Bool)
    → (calls_of : C → Option (List ConnectionCall))
    → (looks anew : Bool) → (old new : ControlWire N C) → Port
    → (room : ℕ) → Result (Option (Place × ℕ)) WireFault → (ended : Bool) → (room_then : List ℕ)
    → Type 0
TakesAtPort takings_in gives_in news_in calls_of looks anew old new Pd room result ended room_then =
    TakesTelegram takings_in gives_in old new Pd result ended room_then
TakesAtPort takings_in gives_in news_in calls_of looks anew old new Md room result ended room_then =
    TakesTelegram takings_in gives_in old new Md result ended room_then
TakesAtPort takings_in gives_in news_in calls_of looks anew old new (PdGroup group) room result ended
    room_then =
    TakesTelegram takings_in gives_in old new (PdGroup group) result ended room_then
TakesAtPort takings_in gives_in news_in calls_of looks anew old new (MdGroup group) room result ended
    room_then =
    TakesTelegram takings_in gives_in old new (MdGroup group) result ended room_then
TakesAtPort takings_in gives_in news_in calls_of looks anew old new Operator room result ended
    room_then =
    IfLooks looks old new result ended
    (TakesOperator takings_in gives_in news_in calls_of anew old new room result room_then
    × (ended ≡ false))
TakesAtPort takings_in gives_in news_in calls_of looks anew old new (Control slot) room result
    ended room_then =
    IfLooks looks old new result ended
    (TakesControl takings_in gives_in news_in calls_of anew slot old new room result room_then
    × (ended ≡ stands_for_end (has_ended_at (control_at new.controls.items slot))
    (arrived_in result room_then)))

-- a rest is one of the network, of no time if something was heard at a path since the rest before:
-- more may be there
pub record RestsOverNetwork {N C : Type 0} (rested_in : N → N → ℕ → Type 0)
    (old new : ControlWire N C) (most : ℕ) : Type 0 where
  pub rests : rested_in old.network new.network (if old.heard then 0 else most)
  pub heard : new.heard ≡ false
  pub operator : new.operator ≡ old.operator
  pub controls : new.controls.items ≡ old.controls.items

-- a give at one of the network's ports, which takes nothing, and changes no path
abbrev pub GivesTelegram : {N C : Type 0} → (takings_in : N → Option (List Taking))
    → (gives_in : N → Option (List Give)) → (old new : ControlWire N C) → Port → (to : Place)
    → (bytes : List ℕ) → Result (Unit {0}) WireFault → Type 0
GivesTelegram takings_in gives_in old new port to bytes result =
    GivesOverNetwork (gives_in old.network) (gives_in new.network) port to bytes result old.failures
    × TellsMore (takings_in old.network) (takings_in new.network) []
    × (new.operator ≡ old.operator) × (new.controls.items ≡ old.controls.items)

-- a give at a port: to the network, or at the operator's path or that of a slot, and nowhere else
abbrev pub GivesAtPort : {N C : Type 0} → (takings_in : N → Option (List Taking))
    → (gives_in : N → Option (List Give)) → (calls_of : C → Option (List ConnectionCall))
    → (old new : ControlWire N C) → Port → (to : Place) → (bytes : List ℕ)
    → Result (Unit {0}) WireFault → Type 0
GivesAtPort takings_in gives_in calls_of old new Pd to bytes result =
    GivesTelegram takings_in gives_in old new Pd to bytes result
GivesAtPort takings_in gives_in calls_of old new Md to bytes result =
    GivesTelegram takings_in gives_in old new Md to bytes result
GivesAtPort takings_in gives_in calls_of old new (PdGroup group) to bytes result =
    GivesTelegram takings_in gives_in old new (PdGroup group) to bytes result
GivesAtPort takings_in gives_in calls_of old new (MdGroup group) to bytes result =
    GivesTelegram takings_in gives_in old new (MdGroup group) to bytes result
GivesAtPort takings_in gives_in calls_of old new Operator to bytes result =
    GivesAtOperator calls_of old.operator new.operator to bytes result old.failures
    × (new.network ≡ old.network) × (new.controls.items ≡ old.controls.items)
GivesAtPort takings_in gives_in calls_of old new (Control slot) to bytes result =
    GivesAtControl calls_of slot old.controls.items new.controls.items to bytes result
    old.failures
    × (new.network ≡ old.network) × (new.operator ≡ old.operator)
