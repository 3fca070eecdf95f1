-- The effect of an event.
-- For `take_event` and `take_operator`, and for `lost_only_where_memory_is_taken`.
-- By cases: the node takes the event, rejects it, or is out of memory for it.
use Rattle.std.proofs.Common.{◌≡◌, ℕ, List, [], Option, refl, sym, ◌∙◌, ap, subst}
use Rattle.std.proofs.Common.{Bool, true, false, not, if◌then◌else◌, length}
use Rattle.trdp_base.specs.declared.place.Place.{Place}
use Rattle.trdp_model.specs.Events.{EventModel, MomentIs, TopologyIs, RoleIs, DatagramIs, CallIs}
use Rattle.trdp_model.specs.Events.{AddSlotIs}
use Rattle.trdp_model.specs.Events.{ResetCall}
use Rattle.trdp_model.specs.NodeModels.{NodeModel}
use Rattle.trdp_engine.specs.NodeStates.{uncounted}
use Rattle.trdp_model.specs.NodeModels.{MayTakeMemory, due_in}
use Rattle.std.proofs.lemmas.Bool.{lt-ltb, ltb-true}
use Rattle.trdp_model.specs.Records.{RecordModel}
use Rattle.trdp_model.specs.Alone.{refused_as}
use Rattle.trdp_model.specs.NodeModels.{node_after}
use Rattle.trdp_outbox.specs.SlotOrder.{by_slot, slots_end, slots_from}
use Rattle.trdp_outbox.proofs.SlotOrderLemmas.Slots.{from_zero}
use Rattle.trdp_daemon.specs.declared.contact.Contact.{Contact}
use Rattle.trdp_daemon.specs.declared.link.Link.{Link}
use Rattle.trdp_daemon.specs.declared.service.Service.{Service}
use Rattle.trdp_wire.specs.Told.{Taking, Give}
use Rattle.trdp_daemon.specs.Effects.{ServiceState, Effect, Loss, LineLost, EventLost, TextsLost}
use Rattle.trdp_daemon.specs.Effects.{event_effect, is_reset, texts_lost}
use Rattle.trdp_daemon.specs.Effects.{event_records, event_taken, lost_or, may_take_memory}
use Rattle.trdp_daemon.specs.Effects.{missing, offering, records_telling, telling_only}
use Rattle.trdp_daemon.specs.Links.{Carries}
use Rattle.trdp_daemon.specs.Tellings.{Tells}
use Rattle.trdp_wire.specs.declared.port.Port.TheVariants.{Operator}
use Rattle.trdp_daemon.specs.Visits.{operator_event, operator_taken, operator_text}
use Rattle.trdp_daemon.proofs.LinkLemmas.{carries_both}
use Rattle.trdp_daemon.specs.Services.{Comes, ComesTold, ComesWith, service_state}

-- no records are of any slot
pub no_records : (records : List RecordModel) → records ≡ [] → by_slot records ≡ []
unfolding by_slot
no_records records none =
    ap (λ rs. slots_from 0 (slots_end rs) rs) none ∙ from_zero 0 []

-- an event was taken, or rejected, and its records were offered
pub records_told : {W : Type 0} {takings_in : W → Option (List Taking)}
    {gives_in : W → Option (List Give)} {a b : Link W} (old new : Service)
    (event : EventModel) (contacts : List (Option Contact)) (records : List RecordModel)
    → uncounted new.node ≡ node_after (uncounted old.node) event
    → new.contacts.items ≡ old.contacts.items → new.reading ≡ old.reading
    → new.lease ≡ old.lease → contacts ≡ old.contacts.items → records ≡ event_records
    (uncounted old.node) event
    → Tells takings_in gives_in contacts a b records
    → ComesTold takings_in gives_in old new a b event
unfolding event_effect
records_told {W} {takings_in} {gives_in} {a} {b} old
    new event contacts records node kept read leased same all told = record {
      marks = told.marks;
      comes = record {
        service_is = cc;
        carried = subst (λ (l : List RecordModel). Carries
            takings_in gives_in a b [] (records_telling old.contacts.items told.marks l)) all
            (subst (λ (l : List (Option Contact)). Carries
            takings_in gives_in a b [] (records_telling l told.marks records)) same told.carried);
      };
    }

pub comes_told : {W : Type 0} {takings_in : W → Option (List Taking)}
    {gives_in : W → Option (List Give)} {a b : Link W} {old new : Service} {event : EventModel}
    → ComesTold takings_in gives_in old new a b event
    → ComesWith takings_in gives_in old new a b (event_effect (service_state old) event)
comes_told told = record { loss = TextsLost told.marks; comes = told.comes }

-- an event may need memory
pub wanting : (node : NodeModel) (event : EventModel)
    → MayTakeMemory node event → is_reset event ≡ false → may_take_memory node event ≡ true
unfolding may_take_memory
wanting node (MomentIs t) may other = lt-ltb 0 (due_in t node.slots) may
wanting node (TopologyIs topo) may other = absurd may
wanting node (RoleIs group leader) may other = absurd may
wanting node (DatagramIs protocol src dst bytes) may other = may
wanting node (CallIs s call) may other = ap not other
wanting node (AddSlotIs quotas) may other = refl

not_true : (b : Bool) → not b ≡ true → b ≡ false
not_true true is = absurd (cc)
not_true false is = refl

pub is_wanting : (node : NodeModel) (event : EventModel)
    → may_take_memory node event ≡ true → MayTakeMemory node event × (is_reset event ≡ false)
unfolding may_take_memory
is_wanting node (MomentIs t) may = (ltb-true 0 (due_in t node.slots) may, refl)
is_wanting node (TopologyIs topo) may = absurd (cc)
is_wanting node (RoleIs group leader) may = absurd (cc)
is_wanting node (DatagramIs protocol src dst bytes) may = (may, refl)
is_wanting node (CallIs s call) may = (tt, not_true (is_reset (CallIs s call)) may)
is_wanting node (AddSlotIs quotas) may = (tt, refl)

-- an event is lost there
lost_there : (s : ServiceState) (event : EventModel) (effect : Effect)
    → MayTakeMemory s.node event → is_reset event ≡ false
    → telling_only s missing ≡ lost_or s event effect
lost_there s event effect may other =
    ap (λ b. if b then telling_only s missing else effect) (sym (wanting s.node event may other))

-- and nowhere else
not_lost : (s : ServiceState) (event : EventModel) (effect : Effect)
    → (MayTakeMemory s.node event → ⊥) → lost_or s event effect ≡ effect
not_lost s event effect never = by_test (may_take_memory s.node event) refl
  where
    by_test : (may : Bool) → may_take_memory s.node event ≡ may → lost_or s event effect ≡ effect
    by_test true is = absurd (never (is_wanting s.node event is).0)
    by_test false is = ap (λ b. if b then telling_only s missing else effect) is

pub event_not_lost : (s : ServiceState) (event : EventModel) (loss : Loss)
    → (MayTakeMemory s.node event → ⊥)
    → event_effect s event loss ≡ event_taken s event (texts_lost loss)
unfolding event_effect
event_not_lost s event LineLost never = not_lost s event (event_taken s event []) never
event_not_lost s event EventLost never = not_lost s event (event_taken s event []) never
event_not_lost s event (TextsLost marks) never = refl

-- nor is a reset
pub reset_not_lost : (s : ServiceState) (slot : ℕ) (loss : Loss)
    → event_effect s (CallIs slot ResetCall) loss
    ≡ event_taken s (CallIs slot ResetCall) (texts_lost loss)
unfolding event_effect may_take_memory
reset_not_lost s slot LineLost = refl
reset_not_lost s slot EventLost = refl
reset_not_lost s slot (TextsLost marks) = refl

pub operator_not_lost : (s : ServiceState) (from : Place) (event : EventModel)
    → (MayTakeMemory s.node event → ⊥)
    → operator_event s from event EventLost ≡ operator_taken s from event []
unfolding operator_event
operator_not_lost s from event never = not_lost s event (operator_taken s from event []) never

-- the parts of a service say its state
pub same_state : (old new : Service) → new.node ≡ old.node
    → new.contacts.items ≡ old.contacts.items → new.reading ≡ old.reading → new.lease ≡ old.lease
    → service_state new ≡ service_state old
same_state old new node kept read leased = cc

-- an event was lost
pub missed :
    {W : Type 0} {takings_in : W → Option (List Taking)} {gives_in : W → Option (List Give)}
    {a b : Link W} (old new : Service)
    → new.node ≡ old.node → new.contacts.items ≡ old.contacts.items → new.reading ≡ old.reading
    → new.lease ≡ old.lease → Carries takings_in gives_in a b [] missing
    → Comes takings_in gives_in old new a b [] (telling_only (service_state old) missing)
missed old new node kept read leased carried =
    record { service_is = same_state old new node kept read leased; carried = carried }

pub comes_lost : {W : Type 0} {takings_in : W → Option (List Taking)}
    {gives_in : W → Option (List Give)} {a b : Link W} (old new : Service) (event : EventModel)
    → MayTakeMemory (uncounted old.node) event → is_reset event ≡ false
    → Comes takings_in gives_in old new a b [] (telling_only (service_state old) missing)
    → ComesWith takings_in gives_in old new a b (event_effect (service_state old) event)
unfolding event_effect
comes_lost {W} {takings_in} {gives_in} {a} {b} old new event may other lost = record {
  loss = EventLost;
  comes = subst (λ (e : Effect). Comes takings_in gives_in old new a b [] e)
      (lost_there (service_state old) event (event_taken (service_state old) event []) may other)
      lost;
}

-- an event of the operator was taken, or rejected, its records were offered and it was answered
pub comes_answered : {W : Type 0} {takings_in : W → Option (List Taking)}
    {gives_in : W → Option (List Give)} {a b c : Link W} (old new : Service) (event : EventModel)
    (from : Place) (text : List ℕ)
    → text ≡ operator_text (refused_as (length old.node.slots) old.node.globals event)
    → ComesTold takings_in gives_in old new a b event
    → Carries takings_in gives_in b c [] (offering Operator from text)
    → ComesWith takings_in gives_in old new a c (operator_event (service_state old) from event)
unfolding operator_event
comes_answered {W} {takings_in} {gives_in} {a} {b} {c} old new event from text said told answered =
    record {
      loss = TextsLost told.marks;
      comes = record {
        service_is = told.comes.service_is;
        carried = carries_both told.comes.carried (subst (λ (l : List ℕ).
            Carries takings_in gives_in b c [] (offering Operator from l)) said answered);
      };
    }

-- an event of the operator was lost
pub comes_unanswered :
    {W : Type 0} {takings_in : W → Option (List Taking)} {gives_in : W → Option (List Give)}
    {a b : Link W} (old new : Service) (event : EventModel) (from : Place)
    → MayTakeMemory (uncounted old.node) event → is_reset event ≡ false
    → Comes takings_in gives_in old new a b [] (telling_only (service_state old) missing)
    → ComesWith takings_in gives_in old new a b (operator_event (service_state old) from event)
unfolding operator_event
comes_unanswered {W} {takings_in} {gives_in} {a} {b} old new event from may other lost = record {
  loss = EventLost;
  comes = subst (λ (e : Effect). Comes takings_in gives_in old new a b [] e)
      (lost_there (service_state old) event (operator_taken (service_state old) from event [])
      may other) lost;
}
