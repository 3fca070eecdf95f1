-- What steps are made of that fits leads to nodes and telegrams that fit.
-- For the promises that need `AreTypedSteps`: `history_typed` gives each move's premise.
-- By induction on the steps, over `TypedSlotLemmas` for the node that moves.
use Rattle.std.proofs.Common.{◌≡◌, ℕ, zero, suc, ◌+◌, List, [], ◌∷◌, length, Option, Some, None}
use Rattle.std.proofs.Common.{Bool, true, false, refl, sym, subst, inl, inr, slice_get}
use Rattle.std.specs.Prelude.{◌⊎◌, if◌then◌else◌}
use Rattle.trdp_dataset.specs.Configs.{ConfigModel}
use Rattle.trdp_filter.specs.declared.globals.Globals.{Globals}
use Rattle.trdp_model.specs.declared.fault.NodeFault.{NodeFault}
use Rattle.trdp_model.specs.Configs.{NodeSetup}
use Rattle.trdp_model.specs.Records.{Content, Answers, Indicates, Sends}
use Rattle.trdp_model.specs.Events.{CallModel, PublishCall, OpenPullCall, EventModel, MomentIs}
use Rattle.trdp_model.specs.Events.{TopologyIs, RoleIs, DatagramIs, CallIs}
use Rattle.trdp_model.specs.Events.{PutCall, UnpublishCall, SubscribeCall, GetCall}
use Rattle.trdp_model.specs.Events.{UnsubscribeCall}
use Rattle.trdp_model.specs.Events.{PullCall, ClosePullCall, ListenCall, UnlistenCall, NotifyCall}
use Rattle.trdp_model.specs.Events.{RequestCall, ReplyCall, QueryCall, ReplyErrorCall}
use Rattle.trdp_model.specs.Events.{ConfirmCall}
use Rattle.trdp_model.specs.Events.{AbortCall, ResetCall}
use Rattle.trdp_model.specs.Events.{AddSlotIs}
use Rattle.trdp_model.specs.Alone.{opened_by}
use Rattle.trdp_model.specs.Slots.{Entry, SlotState}
use Rattle.trdp_model.specs.Alone.{refused_as, plain_effect}
use Rattle.trdp_net.specs.Networks.{NetNode, place_of, Sent, Network, Step, CallAt, MomentAt}
use Rattle.trdp_net.specs.Networks.{TopologyAt, RoleAt, DeliveryAt, AddSlotAt, plain_node}
use Rattle.trdp_net.specs.Networks.{sends_of, plain_slots}
use Rattle.trdp_net.specs.Networks.{sent_by, moves, moves_unless, moves_at, reaches, delivered}
use Rattle.trdp_net.specs.Networks.{network_step, network_run, opened_network}
use Rattle.trdp_net.specs.Provenance.{Always, In}
use Rattle.trdp_net.specs.Promises.{history}
use Rattle.trdp_net.specs.Typed.{IsTypedCall, IsTypedStep, AreTypedSteps}
use Rattle.trdp_net.proofs.PartLemmas.{each_append, each_get, set_get, get_append}
use Rattle.trdp_net.proofs.OpenedSlotLemmas.{slot_before, none_opened, opened_empty}
use Rattle.trdp_net.proofs.TypedObjectLemmas.{IsSentTyped, AreTyped}
use Rattle.trdp_net.proofs.TypedSlotLemmas.{IsTypedEvent, effect_typed}
use Rattle.trdp_net.proofs.TypedMoveLemmas.{IsTypedSending, SendsTyped, IsTypedEntry, IsTypedMove}
use Rattle.trdp_net.specs.Provenance.{Each}

-- a telegram that was sent fits
abbrev SentTyped : Sent → Type 0
SentTyped x = IsSentTyped x.protocol x.bytes

-- each object of a node fits
abbrev NodeTyped : NetNode → Type 0
NodeTyped node =
    (s : ℕ) (slot : SlotState) → slice_get node.slots s ≡ Some slot
    → Each IsTypedEntry slot.objects

-- each object, each telegram and each move fits
pub record NetworkTyped (w : Network) : Type 0 where
  pub nodes : (k : ℕ) (node : NetNode) → slice_get w.nodes k ≡ Some node → NodeTyped node
  pub sent : Each SentTyped w.sent
  pub always : Always IsTypedMove w.history

call_typed : (call : CallModel) → IsTypedCall call → IsTypedSending call
call_typed (PublishCall terms) fits = tt
call_typed (OpenPullCall terms) fits = tt
call_typed (PutCall handle bytes) fits = fits
call_typed (UnpublishCall handle) fits = fits
call_typed (SubscribeCall terms) fits = fits
call_typed (GetCall handle) fits = fits
call_typed (UnsubscribeCall handle) fits = fits
call_typed (PullCall handle) fits = fits
call_typed (ClosePullCall handle) fits = fits
call_typed (ListenCall filter) fits = fits
call_typed (UnlistenCall handle) fits = fits
call_typed (NotifyCall terms payload) fits = fits
call_typed (RequestCall terms payload) fits = fits
call_typed (ReplyCall handle com_id status payload) fits = fits
call_typed (QueryCall handle com_id status timeout payload) fits = fits
call_typed (ReplyErrorCall handle com_id status) fits = fits
call_typed (ConfirmCall handle place status) fits = fits
call_typed (AbortCall handle) fits = fits
call_typed ResetCall fits = fits

event_typed : (event : EventModel) → IsTypedEvent event → SendsTyped event
event_typed (MomentIs t) fits = tt
event_typed (TopologyIs topo) fits = tt
event_typed (RoleIs group leader) fits = tt
event_typed (DatagramIs protocol src dst bytes) fits = tt
event_typed (CallIs s call) fits = call_typed call fits
event_typed (AddSlotIs quotas) fits = tt

sends_typed : (setup : NodeSetup) (records : List Content) → AreTyped records
    → Each SentTyped (sends_of setup records)
sends_typed setup [] fits = tt
sends_typed setup (Answers answer ∷ records) fits = sends_typed setup records fits.1
sends_typed setup (Indicates indication ∷ records) fits = sends_typed setup records fits.1
sends_typed setup (Sends protocol to bytes ∷ records) fits =
    (fits.0, sends_typed setup records fits.1)

all_typed : (setup : NodeSetup) (globals : Globals) (event : EventModel) (s : ℕ)
    (slots : List SlotState) → IsTypedEvent event
    → ((j : ℕ) (slot : SlotState) → slice_get slots j ≡ Some slot → Each IsTypedEntry slot.objects)
    → Each SentTyped (sent_by setup globals event s slots)
all_typed setup globals event s [] e fits = tt
all_typed setup globals event s (slot ∷ slots) e fits =
    each_append SentTyped (sends_of setup (plain_effect setup s slot globals event).records)
    (sent_by setup globals event (suc s) slots)
    (sends_typed setup (plain_effect setup s slot globals event).records
    (effect_typed setup s slot globals event e (fits zero slot refl)).sends)
    (all_typed setup globals event (suc s) slots e (λ j other is. fits (suc j) other is))

move_typed : (w : Network) (k : ℕ) (node : NetNode) (event : EventModel)
    → slice_get w.nodes k ≡ Some node → IsTypedEvent event → NetworkTyped w
    → NetworkTyped (moves w k node event)
move_typed w k node event is e h = record {
  nodes = λ j after at. node_at j after (set_get w.nodes k (plain_node node event) j after at);
  sent =
      each_append SentTyped w.sent (sent_by node.setup node.globals event zero node.slots) h.sent
      (all_typed node.setup node.globals event zero node.slots e (h.nodes k node is));
  always = (record { objects = h.nodes k node is; event = event_typed event e }, h.always);
}
  where
    moved : NodeTyped (plain_node node event)
    moved s after at =
        either s after
        (get_append (plain_slots node.setup node.globals event zero node.slots) (opened_by event) s
        after at)
      where
        either : (s : ℕ) (after : SlotState)
            → (slice_get (plain_slots node.setup node.globals event zero node.slots) s ≡ Some after)
            ⊎ In after (opened_by event) → Each IsTypedEntry after.objects
        either s after (inr new) =
            subst (λ (es : List Entry). Each IsTypedEntry es)
            (sym (opened_empty event after new)) tt
        either s after (inl found) =
            let was = slot_before node.setup node.globals event zero node.slots s after found in
            subst (λ (x : SlotState). Each IsTypedEntry x.objects) was.2
            (effect_typed node.setup (zero + s) was.0 node.globals event e
            (h.nodes k node is s was.0 was.1)).objects

    node_at : (j : ℕ) (after : NetNode)
        → ((j ≡ k) × (plain_node node event ≡ after)) ⊎ (slice_get w.nodes j ≡ Some after)
        → NodeTyped after
    node_at j after (inl same) = subst (λ (x : NetNode). NodeTyped x) same.1 moved
    node_at j after (inr was) = h.nodes j after was

unless_typed : (w : Network) (k : ℕ) (fault : Option NodeFault) (node : NetNode)
    (event : EventModel) → slice_get w.nodes k ≡ Some node → IsTypedEvent event → NetworkTyped w
    → NetworkTyped (moves_unless fault w k node event)
unless_typed w k (Some fault) node event is e h = h
unless_typed w k None node event is e h = move_typed w k node event is e h

moves_typed : (w : Network) (k : ℕ) (found : Option NetNode) (event : EventModel)
    → slice_get w.nodes k ≡ found → IsTypedEvent event → NetworkTyped w
    → NetworkTyped (moves_at w k found event)
moves_typed w k None event is e h = h
moves_typed w k (Some node) event is e h =
    unless_typed w k (refused_as (length node.slots) node.globals event) node event is e h

delivered_typed : (w : Network) (k : ℕ) (found : Option NetNode) (x : Option Sent)
    → slice_get w.nodes k ≡ found → ((y : Sent) → x ≡ Some y → SentTyped y) → NetworkTyped w
    → NetworkTyped (delivered w k found x)
delivered_typed w k None x is sent h = h
delivered_typed w k (Some node) None is sent h = h
delivered_typed w k (Some node) (Some x) is sent h =
    either (reaches x.to (place_of x.protocol node.setup))
  where
    either : (b : Bool) → NetworkTyped
        (if b then moves_at w k (Some node) (DatagramIs x.protocol x.from x.to x.bytes) else w)
    either true =
        moves_typed w k (Some node) (DatagramIs x.protocol x.from x.to x.bytes) is (sent x refl) h
    either false = h

step_typed : (w : Network) (step : Step) → IsTypedStep step → NetworkTyped w
    → NetworkTyped (network_step w step)
step_typed w (CallAt k s call) e h = moves_typed w k (slice_get w.nodes k) (CallIs s call) refl e h
step_typed w (MomentAt k t) e h = moves_typed w k (slice_get w.nodes k) (MomentIs t) refl tt h
step_typed w (TopologyAt k topo) e h =
    moves_typed w k (slice_get w.nodes k) (TopologyIs topo) refl tt h
step_typed w (RoleAt k group leader) e h =
    moves_typed w k (slice_get w.nodes k) (RoleIs group leader) refl tt h
step_typed w (AddSlotAt k quotas) e h =
    moves_typed w k (slice_get w.nodes k) (AddSlotIs quotas) refl tt h
step_typed w (DeliveryAt k which) e h =
    delivered_typed w k (slice_get w.nodes k) (slice_get w.sent which) refl
    (λ x at. each_get SentTyped w.sent which x h.sent at) h

run_typed : (w : Network) (steps : List Step) → AreTypedSteps steps → NetworkTyped w
    → NetworkTyped (network_run w steps)
run_typed w [] e h = h
run_typed w (step ∷ steps) e h =
    run_typed (network_step w step) steps e.1 (step_typed w step e.0 h)

-- each state of a run of typed steps is typed
pub history_typed : (configs : List ConfigModel) (steps : List Step) → AreTypedSteps steps
    → Always IsTypedMove (history configs steps)
history_typed configs steps e =
    (run_typed (opened_network configs) steps e (record {
      nodes = λ k node is s slot at.
          subst (λ (es : List Entry). Each IsTypedEntry es)
          (sym (none_opened configs k node is s slot at)) tt;
      sent = tt;
      always = tt;
    })).always
