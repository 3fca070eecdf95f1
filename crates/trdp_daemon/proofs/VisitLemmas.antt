-- The effect of a datagram at a port.
-- For `Service::visit`, `take_datagram`, `take_operator` and `take_control`.
-- By cases on the port, and on whether its line was read, skipped or rejected.
use Rattle.std.proofs.Common.{◌≡◌, ℕ, Bool, true, false, List, [], ◌∷◌, Option, Some, None}
use Rattle.std.proofs.Common.{Result, Ok, Err, refl, sym, ◌∙◌, ap, subst, length, map, take}
use Rattle.std.specs.Prelude.{option_map}
use Rattle.trdp_base.specs.declared.place.Place.{Place}
use Rattle.trdp_model.specs.Events.{EventModel, DatagramIs, event_model}
use Rattle.trdp_model.specs.declared.record.Protocol.{Protocol}
use Rattle.trdp_model.specs.declared.record.Protocol.TheVariants.{Pd as PdData, Md as MdData}
use Rattle.trdp_text.specs.declared.fault.LineFault.{LineFault}
use Rattle.trdp_text.specs.declared.fault.LineFault.TheVariants.{OutOfMemory}
use Rattle.trdp_model.specs.declared.event.Event.{Event}
use Rattle.trdp_text.specs.EventBytes.{carries_bytes}
use Rattle.trdp_text.specs.Lines.{ReadsOrSkips}
use Rattle.trdp_text.specs.declared.operator_line.OperatorLine.{OperatorLine}
use Rattle.trdp_text.specs.declared.operator_line.Question.{Question}
use Rattle.trdp_text.specs.PortLines.{OperatorSays, Orders, Asks, operator_line_model}
use Rattle.trdp_text.specs.PortLines.{control_line_of, operator_line_of}
use Rattle.trdp_wire.specs.declared.fault.WireFault.{WireFault}
use Rattle.trdp_daemon.specs.declared.link.Link.{Link}
use Rattle.trdp_wire.specs.declared.port.Port.{Port}
use Rattle.trdp_wire.specs.declared.port.Port.TheVariants.{Pd, Md, PdGroup, MdGroup}
use Rattle.trdp_wire.specs.declared.port.Port.TheVariants.{Operator, Control}
use Rattle.trdp_daemon.specs.declared.service.Service.{Service}
use Rattle.trdp_daemon.specs.declared.totals.Totals.{Totals}
use Rattle.trdp_daemon.specs.Counting.{totals_after}
use Rattle.trdp_wire.specs.Told.{Taking, Give, arrived_in, stands_for_end, taking_of}
use Rattle.trdp_daemon.specs.Effects.{ServiceState, Loss, LineLost, EventLost, TextsLost}
use Rattle.trdp_daemon.specs.Effects.{Effect, Telling, silence, missing, event_effect, still}
use Rattle.trdp_daemon.specs.Leases.{ended_effect, quiet_effect}
use Rattle.trdp_daemon.specs.Links.{Carries}
use Rattle.trdp_daemon.specs.Services.{Comes, ComesWith, TakesOnce, service_state}
use Rattle.trdp_daemon.specs.Turns.{Visit, visit_effect, take_room}
use Rattle.trdp_daemon.specs.Visits.{fault_telling, operator_event, operator_effect}
use Rattle.trdp_daemon.specs.Visits.{question_effect, telegram_effect}
use Rattle.trdp_daemon.specs.Visits.{line_lost_or, lives_still, control_effect, control_event}
use Rattle.trdp_wire.specs.Ports.{group_place, place_of_port}
use Rattle.trdp_daemon.specs.Visits.{came_effect, datagram_effect, taking_effect, heard_from}
use Rattle.trdp_daemon.proofs.LinkLemmas.{carries_none, carries_both}
use Rattle.trdp_daemon.proofs.TellingLemmas.{silence_both}

-- what a line that was read means
pub reads_ok :
    (meaning : Result (Option EventModel) LineFault) (read known : Option Event)
    → ReadsOrSkips meaning (Ok read) → read ≡ known → meaning ≡ Ok (option_map event_model known)
reads_ok (Ok said) read known reads is =
    ap (λ e. let r : Result (Option EventModel) LineFault = Ok e in r)
    (sym reads ∙ ap (option_map event_model) is)
reads_ok (Err fault) read known reads is = absurd reads

-- what an operator's line that was read means
pub line_ok : (meaning : Result (Option OperatorSays) LineFault) (read known : Option OperatorLine)
    → meaning ≡ Ok (option_map operator_line_model read) → read ≡ known
    → meaning ≡ Ok (option_map operator_line_model known)
line_ok meaning read known says is =
    says ∙ ap (λ (l : Option OperatorLine). let r : Result (Option OperatorSays) LineFault =
    Ok (option_map operator_line_model l) in r) is

-- nothing happened
pub nothing_comes : {W : Type 0} (takings_in : W → Option (List Taking))
    (gives_in : W → Option (List Give)) (s : Service) (a : Link W)
    → Comes takings_in gives_in s s a a [] (still (service_state s))
nothing_comes takings_in gives_in s a =
    record { service_is = refl; carried = carries_none takings_in gives_in a }

-- a datagram that was no line was answered, or lost
refused_telling :
    {W : Type 0} {takings_in : W → Option (List Taking)} {gives_in : W → Option (List Give)}
    {a b : Link W} (port : Port) (from : Place) (fault : LineFault)
    → fault ≡ OutOfMemory → Carries takings_in gives_in a b [] (fault_telling port from fault)
    → Carries takings_in gives_in a b [] missing
unfolding fault_telling
refused_telling {W} {takings_in} {gives_in} {a} {b} port from fault lost carried =
    subst (λ (f : LineFault). Carries takings_in gives_in a b [] (fault_telling port from f))
    lost carried

pub operator_refused : {W : Type 0} {takings_in : W → Option (List Taking)}
    {gives_in : W → Option (List Give)} {a b : Link W} (s : Service) (from : Place)
    (totals : Totals) (meaning : Result (Option OperatorSays) LineFault) (fault : LineFault)
    → meaning ≡ Err fault
    → Carries takings_in gives_in a b [] (fault_telling Operator from fault)
    → ComesWith takings_in gives_in s s a b (operator_effect (service_state s) from totals meaning)
unfolding operator_effect
operator_refused s from totals meaning fault is carried =
    rw is (record {
      loss = TextsLost [];
      comes = record { service_is = refl; carried = carried };
    })

pub operator_skipped :
    {W : Type 0} (takings_in : W → Option (List Taking)) (gives_in : W → Option (List Give))
    (a : Link W) (s : Service) (from : Place) (totals : Totals)
    (meaning : Result (Option OperatorSays) LineFault) → meaning ≡ Ok None
    → ComesWith takings_in gives_in s s a a (operator_effect (service_state s) from totals meaning)
unfolding operator_effect
operator_skipped takings_in gives_in a s from totals meaning is =
    rw is (record { loss = TextsLost []; comes = nothing_comes takings_in gives_in s a })

pub operator_took : {W : Type 0} {takings_in : W → Option (List Taking)}
    {gives_in : W → Option (List Give)} {a b : Link W} (old new : Service)
    (from : Place) (totals : Totals) (meaning : Result (Option OperatorSays) LineFault)
    (event : EventModel) → meaning ≡ Ok (Some (Orders event))
    → ComesWith takings_in gives_in old new a b (operator_event (service_state old) from event)
    → ComesWith takings_in gives_in old new a b
    (operator_effect (service_state old) from totals meaning)
unfolding operator_effect
operator_took old new from totals meaning event is comes =
    rw is (record { loss = comes.loss; comes = comes.comes })

pub operator_asked : {W : Type 0} {takings_in : W → Option (List Taking)}
    {gives_in : W → Option (List Give)} {a b : Link W} (old new : Service)
    (from : Place) (totals : Totals) (meaning : Result (Option OperatorSays) LineFault)
    (question : Question) → meaning ≡ Ok (Some (Asks question))
    → Comes takings_in gives_in old new a b []
    (question_effect (service_state old) from totals question)
    → ComesWith takings_in gives_in old new a b
    (operator_effect (service_state old) from totals meaning)
unfolding operator_effect
operator_asked old new from totals meaning question is comes =
    rw is (record { loss = TextsLost []; comes = comes })

-- a line that carries bytes was lost
line_lost : {W : Type 0} {takings_in : W → Option (List Taking)} {gives_in : W → Option (List Give)}
    {a b : Link W} (old new : Service) (slot : ℕ) (event : EventModel) (effect : Effect)
    → service_state new ≡ lives_still (service_state old) slot
    → carries_bytes (Some event) ≡ true → Carries takings_in gives_in a b [] missing
    → Comes takings_in gives_in old new a b [] (line_lost_or (service_state old) slot event effect)
line_lost {W} {takings_in} {gives_in} {a} {b} old new slot event effect lives carries carried =
    rw carries (record { service_is = lives; carried = carried })

pub control_refused : {W : Type 0} {takings_in : W → Option (List Taking)}
    {gives_in : W → Option (List Give)} {a b : Link W} (old new : Service) (slot : ℕ) (from : Place)
    (meaning : Result (Option EventModel) LineFault) (fault : LineFault)
    → ReadsOrSkips meaning (Err fault)
    → service_state new ≡ lives_still (service_state old) slot
    → Carries takings_in gives_in a b [] (fault_telling (Control slot) from fault)
    → ComesWith takings_in gives_in old new a b
    (control_effect (service_state old) slot from meaning)
unfolding control_effect control_event
control_refused old new slot from (Ok None) fault reads lives carried =
    let none = reads.1 in absurd (cc)
control_refused old new slot from (Ok (Some event)) fault reads lives carried = record {
  loss = LineLost;
  comes = line_lost old new slot event
      (event_effect (heard_from (service_state old) slot from) event (TextsLost [])) lives reads.1
      (refused_telling (Control slot) from fault reads.0 carried);
}
control_refused {W} {takings_in} {gives_in} {a} {b} old new slot from (Err bad) fault reads lives
    carried =
    record {
      loss = TextsLost [];
      comes = record {
        service_is = lives;
        carried = subst (λ (f : LineFault).
            Carries takings_in gives_in a b [] (fault_telling (Control slot) from f)) reads carried;
      };
    }

pub control_skipped : {W : Type 0} (takings_in : W → Option (List Taking))
    (gives_in : W → Option (List Give)) (a : Link W)
    (old new : Service) (slot : ℕ) (from : Place) (meaning : Result (Option EventModel) LineFault)
    → meaning ≡ Ok None → service_state new ≡ heard_from (service_state old) slot from → ComesWith
    takings_in gives_in old new a a (control_effect (service_state old) slot from meaning)
unfolding control_effect
control_skipped takings_in gives_in a old new slot from meaning is placed =
    rw is (record {
      loss = TextsLost [];
      comes = record { service_is = placed; carried = carries_none takings_in gives_in a };
    })

-- an event that was lost is lost, whatever is said of its line
event_loss : {W : Type 0} {takings_in : W → Option (List Taking)}
    {gives_in : W → Option (List Give)} {a b : Link W} (old new : Service)
    (s : ServiceState) (slot : ℕ) (from : Place) (event : EventModel) (loss : Loss)
    → Comes takings_in gives_in old new a b [] (event_effect (heard_from s slot from) event loss)
    → ComesWith takings_in gives_in old new a b (control_event s slot from event)
unfolding control_event event_effect
event_loss old new s slot from event LineLost comes = record { loss = EventLost; comes = comes }
event_loss old new s slot from event EventLost comes = record { loss = EventLost; comes = comes }
event_loss old new s slot from event (TextsLost marks) comes =
    record { loss = TextsLost marks; comes = comes }

pub control_took : {W : Type 0} {takings_in : W → Option (List Taking)}
    {gives_in : W → Option (List Give)} {a b : Link W} (old mid new : Service)
    (slot : ℕ) (from : Place) (meaning : Result (Option EventModel) LineFault) (event : EventModel)
    → meaning ≡ Ok (Some event) → service_state mid ≡ heard_from (service_state old) slot from
    → ComesWith takings_in gives_in mid new a b (event_effect (service_state mid) event) → ComesWith
    takings_in gives_in old new a b (control_effect (service_state old) slot from meaning)
unfolding control_effect
control_took {W} {takings_in} {gives_in} {a} {b} old
    mid new slot from meaning event is placed comes =
    let here : Comes takings_in gives_in old new
    a b [] (event_effect (heard_from (service_state old) slot from) event comes.loss) = record {
      service_is = comes.comes.service_is
          ∙ ap (λ s. (event_effect s event comes.loss).service) placed;
      carried = subst (λ (s : ServiceState). Carries takings_in
          gives_in a b [] (event_effect s event comes.loss).telling) placed comes.comes.carried;
    } in
    let all = event_loss old new (service_state old) slot from event comes.loss here in
    rw is (record { loss = all.loss; comes = all.comes })

-- a telegram that came to a port, which is known, went to the place of that port
pub at_telegram :
    {W : Type 0} {takings_in : W → Option (List Taking)} {gives_in : W → Option (List Give)}
    {a b : Link W} (old new : Service) (totals : Totals) (protocol : Protocol) (port known : Port)
    (from to : Place) (bytes : List ℕ) → port ≡ known
    → ((loss : Loss) → datagram_effect (service_state old) totals known from bytes loss
    ≡ telegram_effect (service_state old) protocol known from bytes loss)
    → to ≡ place_of_port old.node.config known
    → ComesWith takings_in gives_in old new a b
    (event_effect (service_state old) (DatagramIs protocol from to bytes))
    → ComesWith takings_in gives_in old new a b
    (datagram_effect (service_state old) totals port from bytes)
at_telegram {W} {takings_in} {gives_in} {a} {b} old new totals protocol port known from to bytes
    is same own comes =
    let here = subst (λ (p : Place). ComesWith takings_in gives_in old new a b
    (event_effect (service_state old) (DatagramIs protocol from p bytes))) own comes in
    subst (λ (p : Port). ComesWith takings_in gives_in old new a b
    (datagram_effect (service_state old) totals p from bytes)) (sym is)
    (record {
      loss = here.loss;
      comes = subst (λ (e : Effect). Comes takings_in gives_in old new a b [] e)
          (sym (same here.loss)) here.comes;
    })

-- the effect of a telegram at each of the network's ports
pub pd_comes : (s : ServiceState) (totals : Totals) (from : Place) (bytes : List ℕ) (loss : Loss)
    → datagram_effect s totals Pd from bytes loss ≡ telegram_effect s PdData Pd from bytes loss
unfolding datagram_effect
pd_comes s totals from bytes loss = refl

pub md_comes : (s : ServiceState) (totals : Totals) (from : Place) (bytes : List ℕ) (loss : Loss)
    → datagram_effect s totals Md from bytes loss ≡ telegram_effect s MdData Md from bytes loss
unfolding datagram_effect
md_comes s totals from bytes loss = refl

pub pd_group_comes : (s : ServiceState) (totals : Totals) (group : ℕ) (from : Place)
    (bytes : List ℕ) (loss : Loss) → datagram_effect s totals (PdGroup group) from bytes loss
    ≡ telegram_effect s PdData (PdGroup group) from bytes loss
unfolding datagram_effect
pd_group_comes s totals group from bytes loss = refl

pub md_group_comes : (s : ServiceState) (totals : Totals) (group : ℕ) (from : Place)
    (bytes : List ℕ) (loss : Loss) → datagram_effect s totals (MdGroup group) from bytes loss
    ≡ telegram_effect s MdData (MdGroup group) from bytes loss
unfolding datagram_effect
md_group_comes s totals group from bytes loss = refl

-- the place of a group's port has the number of the node's own
pub group_at : (group number : ℕ) (home own : Place) → home ≡ own
    → number ≡ own.port → group_place group home.port ≡ group_place group number
group_at group number home own is same =
    ap (λ (p : Place). group_place group p.port) is ∙ ap (group_place group) (sym same)

-- where a port is known
pub at_operator :
    {W : Type 0} {takings_in : W → Option (List Taking)} {gives_in : W → Option (List Give)}
    {a b : Link W} (old new : Service) (totals : Totals) (port : Port) (from : Place)
    (bytes : List ℕ) → port ≡ Operator → ComesWith takings_in gives_in old new
    a b (operator_effect (service_state old) from totals (operator_line_of bytes))
    → ComesWith takings_in
    gives_in old new a b (datagram_effect (service_state old) totals port from bytes)
unfolding datagram_effect
at_operator old new totals port from bytes is comes =
    rw is (record { loss = comes.loss; comes = comes.comes })

pub at_control :
    {W : Type 0} {takings_in : W → Option (List Taking)} {gives_in : W → Option (List Give)}
    {a b : Link W} (old new : Service) (totals : Totals) (port : Port) (slot : ℕ) (from : Place)
    (bytes : List ℕ) → port ≡ Control slot → ComesWith takings_in gives_in old
    new a b (control_effect (service_state old) slot from (control_line_of slot bytes)) → ComesWith
    takings_in gives_in old new a b (datagram_effect (service_state old) totals port from bytes)
unfolding datagram_effect
at_control old new totals port slot from bytes is comes =
    rw is (record { loss = comes.loss; comes = comes.comes })

-- what a take answers
abbrev Found : Type 0
Found = Result (Option (Place × ℕ)) WireFault

-- where nothing is offered nothing is given
no_gives : (gives : List Give) → map (λ g. g.offer) gives ≡ [] → gives ≡ []
no_gives [] none = refl
no_gives (give ∷ gives) none = absurd (cc)

-- one take, and its effect
visited : {W : Type 0} {takings_in : W → Option (List Taking)} {gives_in : W → Option (List Give)}
    {a b c : Link W} (old new : Service) (port : Port) (has_ended : Place → Bool) (found : Found)
    (room : List ℕ) → length room ≡ take_room
    → Carries takings_in gives_in a b (taking_of port has_ended found room ∷ []) silence
    → ComesWith takings_in gives_in old new b c
    (taking_effect (service_state old) b.totals port
    (stands_for_end has_ended (arrived_in found room)) (arrived_in found room))
    → TakesOnce takings_in gives_in old new a c port
visited {W} {takings_in} {gives_in} {a} {b} {c} old new port has_ended found room whole taken comes =
    let taking = taking_of port has_ended found room in
    let visit : Visit = record { taking = taking; loss = comes.loss; totals = b.totals } in
    let telling = (visit_effect (service_state old) visit).telling in
    record {
      visit = visit;
      port_is = ap (λ n. (port, n)) whole;
      counted = taken.totals
          ∙ ap (λ gs. totals_after a.totals (taking ∷ []) gs 0) (no_gives taken.gives taken.offers);
      comes = record {
        service_is = comes.comes.service_is;
        carried = subst (λ (t : Telling). Carries takings_in gives_in a c (taking ∷ []) t)
            (silence_both telling) (carries_both taken comes.comes.carried);
      };
    }

-- the wire failed
pub visited_fault :
    {W : Type 0} {takings_in : W → Option (List Taking)} {gives_in : W → Option (List Give)}
    {a b : Link W} (s : Service) (port : Port) (has_ended : Place → Bool) (found : Found)
    (fault : WireFault) (room : List ℕ) → found ≡ Err fault → length room ≡ take_room
    → Carries takings_in gives_in a b (taking_of port has_ended found room ∷ []) silence
    → TakesOnce takings_in gives_in s s a b port
unfolding taking_effect
visited_fault {takings_in = takings_in} {gives_in} {b = b} s port has_ended found fault room failed
    whole taken = visited s s port has_ended found room whole taken
    (rw failed (record { loss = TextsLost []; comes = nothing_comes takings_in gives_in s b }))

-- nothing was there
pub visited_nothing :
    {W : Type 0} {takings_in : W → Option (List Taking)} {gives_in : W → Option (List Give)}
    {a b c : Link W} (old new : Service) (port : Port) (has_ended : Place → Bool) (found : Found)
    (room : List ℕ) → found ≡ Ok None → length room ≡ take_room
    → Carries takings_in gives_in a b (taking_of port has_ended found room ∷ []) silence
    → ComesWith takings_in gives_in old new b c (quiet_effect (service_state old) port)
    → TakesOnce takings_in gives_in old new a c port
unfolding taking_effect
visited_nothing old new port has_ended found room none whole taken comes =
    visited old new port has_ended found room whole taken
    (rw none (record { loss = comes.loss; comes = comes.comes }))

-- a datagram came, or the end of an application
visited_found :
    {W : Type 0} {takings_in : W → Option (List Taking)} {gives_in : W → Option (List Give)}
    {a b c : Link W} (old new : Service) (port : Port) (has_ended : Place → Bool) (found : Found)
    (from : Place) (len : ℕ) (room bytes : List ℕ)
    → found ≡ Ok (Some (from, len)) → bytes ≡ take len room → length room ≡ take_room
    → Carries takings_in gives_in a b (taking_of port has_ended found room ∷ []) silence
    → ComesWith takings_in gives_in old new b c
    (came_effect (has_ended from) (service_state old) b.totals port from bytes)
    → TakesOnce takings_in gives_in old new a c port
unfolding taking_effect
visited_found {W} {takings_in} {gives_in} {a} {b} {c} old new port has_ended found from len room
    bytes some front whole taken comes =
    let here = subst (λ (l : List ℕ). ComesWith takings_in gives_in old new b c
    (came_effect (has_ended from) (service_state old) b.totals port from l)) front comes in
    visited old new port has_ended found room whole taken
    (rw some (record { loss = here.loss; comes = here.comes }))

pub visited_end :
    {W : Type 0} {takings_in : W → Option (List Taking)} {gives_in : W → Option (List Give)}
    {a b c : Link W} (old new : Service) (port : Port) (ended : Bool) (found : Found)
    (from : Place) (len : ℕ) (room : List ℕ)
    → found ≡ Ok (Some (from, len)) → ended ≡ true → length room ≡ take_room
    → Carries takings_in gives_in a b (taking_of port (λ place. ended) found room ∷ []) silence
    → ComesWith takings_in gives_in old new b c (ended_effect (service_state old) port)
    → TakesOnce takings_in gives_in old new a c port
visited_end {W} {takings_in} {gives_in} {a} {b} {c} old new port ended found from len room some is
    whole taken comes =
    visited_found old new port (λ place. ended) found from len room (take len room) some refl whole
    taken (subst (λ (e : Bool). ComesWith takings_in gives_in old new b c
    (came_effect e (service_state old) b.totals port from (take len room))) (sym is)
    (record { loss = comes.loss; comes = comes.comes }))

pub visited_datagram :
    {W : Type 0} {takings_in : W → Option (List Taking)} {gives_in : W → Option (List Give)}
    {a b c : Link W} (old new : Service) (port : Port) (ended : Bool) (found : Found)
    (from : Place) (len : ℕ) (room bytes : List ℕ)
    → found ≡ Ok (Some (from, len)) → ended ≡ false → bytes ≡ take len room
    → length room ≡ take_room
    → Carries takings_in gives_in a b (taking_of port (λ place. ended) found room ∷ []) silence
    → ComesWith takings_in gives_in old new b c
    (datagram_effect (service_state old) b.totals port from bytes)
    → TakesOnce takings_in gives_in old new a c port
visited_datagram {W} {takings_in} {gives_in} {a} {b} {c} old new port ended found from len room
    bytes some is front whole taken comes =
    visited_found old new port (λ place. ended) found from len room bytes some front whole
    taken (subst (λ (e : Bool). ComesWith takings_in gives_in old new b c
    (came_effect e (service_state old) b.totals port from bytes)) (sym is)
    (record { loss = comes.loss; comes = comes.comes }))
