-- The whole network, step by step.
-- For the five promises of `laws`, through `PromiseLemmas`.
-- By induction on the steps: what is known of each node, telegram and move stays known.
use Rattle.std.proofs.Common.{◌≡◌, ℕ, zero, suc, ◌+◌, List, [], ◌∷◌, Option, Some, None}
use Rattle.std.proofs.Common.{Bool, true, false, refl, sym, ◌∙◌, subst, arith, inl, inr}
use Rattle.std.proofs.Common.{slice_get, length, ℤ}
use Rattle.std.specs.Prelude.{◌&&◌, ◌||◌, ◌==◌, ◌⊎◌, if◌then◌else◌}
use Rattle.trdp_base.specs.declared.place.Place.{Place}
use Rattle.trdp_base.specs.declared.session.SessionId.{SessionId}
use Rattle.trdp_dataset.specs.Configs.{ConfigModel}
use Rattle.trdp_head.specs.declared.md.MdKind.{MdKind}
use Rattle.trdp_head.specs.declared.md.MdKind.TheVariants as message
use Rattle.trdp_head.specs.MdTelegrams.{MdTelegram}
use Rattle.trdp_md.specs.Answers.{is_place}
use Rattle.trdp_model.specs.declared.fault.NodeFault.{NodeFault}
use Rattle.trdp_model.specs.declared.record.Protocol.{Protocol}
use Rattle.trdp_model.specs.declared.record.Protocol.TheVariants.{Pd, Md}
use Rattle.trdp_model.specs.Records.{Content, Answers, Indicates, Sends}
use Rattle.trdp_model.specs.Events.{EventModel, MomentIs, TopologyIs, RoleIs, DatagramIs, CallIs}
use Rattle.trdp_model.specs.Events.{AddSlotIs}
use Rattle.trdp_model.specs.Alone.{opened_by}
use Rattle.trdp_model.specs.Slots.{Entry, SlotState}
use Rattle.trdp_model.specs.Alone.{refused_as, plain_effect}
use Rattle.trdp_model.specs.NodeModels.{opened_model}
use Rattle.trdp_net.specs.Networks.{NetNode, net_node, place_of, Sent, Move, Network, Step, CallAt}
use Rattle.trdp_net.specs.Networks.{MomentAt, TopologyAt, RoleAt, DeliveryAt, AddSlotAt, effect_in}
use Rattle.trdp_net.specs.Networks.{plain_slots}
use Rattle.trdp_net.specs.Networks.{plain_node, sends_of, sent_by, moves, moves_unless, moves_at}
use Rattle.trdp_net.specs.Networks.{is_group, reaches, delivered, network_step, network_run}
use Rattle.trdp_net.specs.Networks.{opened_network}
use Rattle.trdp_net.specs.Provenance.{Ever, Always, In, IsReplied, IsAnsweredBySome}
use Rattle.trdp_net.specs.Provenance.{IsConfirmedBySome}
use Rattle.trdp_net.specs.Promises.{AreSingle}
use Rattle.trdp_net.proofs.PartLemmas.{each_append, each_map, each_get, set_get, get_append}
use Rattle.trdp_net.proofs.OpenedSlotLemmas.{slot_before, none_opened, opened_empty}
use Rattle.trdp_net.proofs.Kept.{EntryKept, sent_later}
use Rattle.trdp_net.proofs.SlotLemmas.{OutcomeKept, entries_later}
use Rattle.trdp_net.proofs.EffectLemmas.{IsSent, slot_kept}
use Rattle.trdp_net.proofs.Explained.{MessageBy, SentBy, ToldBy, IsExplained}
use Rattle.trdp_net.proofs.TypedMoveLemmas.{IsTypedMove}
use Rattle.trdp_net.specs.Provenance.{Each}
use Rattle.trdp_md.proofs.ConfirmLemmas.{place-is_place}

-- what is known of a telegram that was sent
abbrev pub SentKept : List Move → Sent → Type 0
SentKept past x = SentBy x.protocol past x.from x.to x.bytes

-- what is known of node k
abbrev pub NodeKept : List Move → ℕ → NetNode → Type 0
NodeKept past k node =
    (s : ℕ) (slot : SlotState) → slice_get node.slots s ≡ Some slot
    → Each (EntryKept past node.setup k s) slot.objects

-- the node of the move has an address of its own
abbrev pub IsSingle : Move → List Move → Type 0
IsSingle m past = is_group m.before.setup.address ≡ false

-- what is known of a network: of its nodes, of what was sent, and of each move
pub record NetworkKept (w : Network) : Type 0 where
  pub nodes : (k : ℕ) (node : NetNode) → slice_get w.nodes k ≡ Some node
      → NodeKept w.history k node
  pub sent : Each (SentKept w.history) w.sent
  pub always : Always IsExplained w.history
  pub single : (k : ℕ) (node : NetNode) → slice_get w.nodes k ≡ Some node
      → is_group node.setup.address ≡ false
  pub were_single : Always IsSingle w.history

sends_kept : (past : List Move) (m : Move) (k s : ℕ) (records : List Content)
    → Each (ToldBy past m k s) records
    → Each (SentKept (m ∷ past)) (sends_of m.before.setup records)
sends_kept past m k s [] h = tt
sends_kept past m k s (Answers answer ∷ records) h = sends_kept past m k s records h.1
sends_kept past m k s (Indicates indication ∷ records) h = sends_kept past m k s records h.1
sends_kept past m k s (Sends protocol to bytes ∷ records) h =
    (h.0, sends_kept past m k s records h.1)

all_sent : (past : List Move) (m : Move) (s : ℕ) (slots : List SlotState)
    → ((j : ℕ) (slot : SlotState) → slice_get slots j ≡ Some slot
    → Each (ToldBy past m m.node (s + j))
    (plain_effect m.before.setup (s + j) slot m.before.globals m.event).records)
    → Each (SentKept (m ∷ past)) (sent_by m.before.setup m.before.globals m.event s slots)
all_sent past m s [] h = tt
all_sent past m s (x ∷ xs) h =
    let e : s + zero ≡ s = omega arith in
    let first : Each (ToldBy past m m.node s)
    (plain_effect m.before.setup s x m.before.globals m.event).records =
    subst
    (λ (i : ℕ). Each (ToldBy past m m.node i)
    (plain_effect m.before.setup i x m.before.globals m.event).records)
    e (h zero x refl) in
    each_append (SentKept (m ∷ past))
    (sends_of m.before.setup (plain_effect m.before.setup s x m.before.globals m.event).records)
    (sent_by m.before.setup m.before.globals m.event (suc s) xs)
    (sends_kept past m m.node s
    (plain_effect m.before.setup s x m.before.globals m.event).records first)
    (all_sent past m (suc s) xs later)
  where
    later : (j : ℕ) (slot : SlotState) → slice_get xs j ≡ Some slot
        → Each (ToldBy past m m.node (suc s + j))
        (plain_effect m.before.setup (suc s + j) slot m.before.globals m.event).records
    later j slot is =
        let d : s + suc j ≡ suc s + j = omega arith in
        subst
        (λ (i : ℕ). Each (ToldBy past m m.node i)
        (plain_effect m.before.setup i slot m.before.globals m.event).records)
        d (h (suc j) slot is)

-- one event at one node
move_kept : (w : Network) (k : ℕ) (node : NetNode) (event : EventModel)
    → slice_get w.nodes k ≡ Some node → IsSent w.history node.setup event
    → IsTypedMove (record { node = k; before = node; event = event }) w.history
    → NetworkKept w → NetworkKept (moves w k node event)
move_kept w k node event is sent typed h = record {
  nodes = λ j after at. node_at j after (set_get w.nodes k (plain_node node event) j after at);
  sent =
      each_append (SentKept (m ∷ w.history)) w.sent
      (sent_by node.setup node.globals event zero node.slots)
      (each_map (SentKept w.history) (SentKept (m ∷ w.history)) w.sent
      (λ x kept. sent_later x.protocol w.history m x.from x.to x.bytes kept) h.sent)
      (all_sent w.history m zero node.slots told_at);
  always = (λ s slot at. (one s slot at).tells, h.always);
  single = λ j after at. single_at j after (set_get w.nodes k (plain_node node event) j after at);
  were_single = (h.single k node is, h.were_single);
}
  where
    m : Move
    m = record { node = k; before = node; event = event }

    one : (s : ℕ) (slot : SlotState) → slice_get node.slots s ≡ Some slot
        → OutcomeKept w.history m s (effect_in m s slot)
    one s slot at =
        slot_kept w.history m s slot typed.event sent at (typed.objects s slot at)
        (h.nodes k node is s slot at)

    told_at : (j : ℕ) (slot : SlotState) → slice_get node.slots j ≡ Some slot
        → Each (ToldBy w.history m k (zero + j))
        (plain_effect node.setup (zero + j) slot node.globals event).records
    told_at j slot at =
        let e : j ≡ zero + j = omega arith in
        subst
        (λ (i : ℕ). Each (ToldBy w.history m k i)
        (plain_effect node.setup i slot node.globals event).records)
        e (one j slot at).tells

    single_at : (j : ℕ) (after : NetNode)
        → ((j ≡ k) × (plain_node node event ≡ after)) ⊎ (slice_get w.nodes j ≡ Some after)
        → is_group after.setup.address ≡ false
    single_at j after (inl same) =
        subst (λ (x : NetNode). is_group x.setup.address ≡ false) same.1 (h.single k node is)
    single_at j after (inr was) = h.single j after was

    moved : NodeKept (m ∷ w.history) k (plain_node node event)
    moved s after at =
        either s after
        (get_append (plain_slots node.setup node.globals event zero node.slots) (opened_by event) s
        after at)
      where
        either : (s : ℕ) (after : SlotState)
            → (slice_get (plain_slots node.setup node.globals event zero node.slots) s ≡ Some after)
            ⊎ In after (opened_by event)
            → Each (EntryKept (m ∷ w.history) node.setup k s) after.objects
        either s after (inr new) =
            subst (λ (es : List Entry). Each (EntryKept (m ∷ w.history) node.setup k s) es)
            (sym (opened_empty event after new)) tt
        either s after (inl found) =
            let was = slot_before node.setup node.globals event zero node.slots s after found in
            let e : zero + s ≡ s = omega arith in
            let is_after : (plain_effect node.setup s was.0 node.globals event).slot ≡ after =
            subst (λ (n : ℕ). (plain_effect node.setup n was.0 node.globals event).slot ≡ after) e
            was.2 in
            subst (λ (x : SlotState). Each (EntryKept (m ∷ w.history) node.setup k s) x.objects)
            is_after (one s was.0 was.1).objects

    node_at : (j : ℕ) (after : NetNode)
        → ((j ≡ k) × (plain_node node event ≡ after)) ⊎ (slice_get w.nodes j ≡ Some after)
        → NodeKept (m ∷ w.history) j after
    node_at j after (inl same) =
        subst (λ (i : ℕ). NodeKept (m ∷ w.history) i after) (sym same.0)
        (subst (λ (x : NetNode). NodeKept (m ∷ w.history) k x) same.1 moved)
    node_at j after (inr was) =
        λ s slot at. entries_later w.history m after.setup j s slot.objects
        (h.nodes j after was s slot at)

unless_kept : (w : Network) (k : ℕ) (fault : Option NodeFault) (node : NetNode)
    (event : EventModel) → slice_get w.nodes k ≡ Some node → IsSent w.history node.setup event
    → Always IsTypedMove (moves_unless fault w k node event).history → NetworkKept w
    → NetworkKept (moves_unless fault w k node event)
unless_kept w k (Some fault) node event is sent typed h = h
unless_kept w k None node event is sent typed h = move_kept w k node event is sent typed.0 h

moves_kept : (w : Network) (k : ℕ) (event : EventModel) (found : Option NetNode)
    → slice_get w.nodes k ≡ found → ((node : NetNode) → IsSent w.history node.setup event)
    → Always IsTypedMove (moves_at w k found event).history → NetworkKept w
    → NetworkKept (moves_at w k found event)
moves_kept w k event None is sent typed h = h
moves_kept w k event (Some node) is sent typed h =
    unless_kept w k (refused_as (length node.slots) node.globals event) node event is (sent node)
    typed h

-- what is known of the past, where it ever was
ever_use : (P R : Move → List Move → Type 0) (Q : Type 0)
    → ((m : Move) (past : List Move) → P m past → R m past → Always R past → Q)
    → (h : List Move) → Always R h → Ever P h → Q
ever_use P R Q f [] a e = absurd e
ever_use P R Q f (m ∷ past) a (inl p) = f m past p a.0 a.1
ever_use P R Q f (m ∷ past) a (inr e) = ever_use P R Q f past a.1 e

-- a confirmation goes to a place that has answered, so to no group
confirms_single : (past : List Move) → Always IsSingle past
    → (session : SessionId) (home place : Place) (status : ℤ)
    → Ever (IsConfirmedBySome session home place status) past → is_group place.ip.0 ≡ false
confirms_single past single session home place status e =
    ever_use (IsConfirmedBySome session home place status) IsSingle (is_group place.ip.0 ≡ false)
    (λ m earlier c s all.
    ever_use (IsReplied c.0 session place message.Query) IsSingle
    (is_group place.ip.0 ≡ false)
    (λ m1 earlier1 r s1 all1.
    ever_use (IsAnsweredBySome session r.answer) IsSingle (is_group place.ip.0 ≡ false)
    (λ m2 earlier2 a s2 all2.
    subst (λ (p : Place). is_group p.ip.0 ≡ false) (a.2.place_is ∙ r.place_is) s2)
    earlier1 all1 r.answered)
    earlier all c.1.queried)
    past single e

message_here : (kind : MdKind) (past : List Move) → Always IsSingle past
    → (from to place : Place) (t : MdTelegram) → reaches to place ≡ true
    → MessageBy kind past from to t → MessageBy kind past from place t
message_here message.Notify past single from to place t there h = h
message_here message.Request past single from to place t there h = h
message_here message.Reply past single from to place t there h = h
message_here message.Query past single from to place t there h = h
message_here message.Error past single from to place t there h = h
message_here message.Confirm past single from to place t there h =
    either (is_place to place) refl (is_group to.ip.0)
    (confirms_single past single t.head.session from to t.head.status h) there
  where
    either : (a : Bool) → is_place to place ≡ a → (b : Bool) → b ≡ false
        → (a || (b && to.port == place.port)) ≡ true
        → MessageBy message.Confirm past from place t
    either true same b isnt found =
        subst (λ (p : Place). MessageBy message.Confirm past from p t)
        (place-is_place to place same) h
    either false same true isnt found = absurd (cc isnt)
    either false same false isnt found = absurd (cc found)

sent_here : (protocol : Protocol) (past : List Move) → Always IsSingle past
    → (from to place : Place) (bytes : List ℕ) → reaches to place ≡ true
    → SentBy protocol past from to bytes → SentBy protocol past from place bytes
sent_here Pd past single from to place bytes there h = h
sent_here Md past single from to place bytes there h =
    λ t read. message_here t.head.kind past single from to place t there (h t read)

delivered_kept : (w : Network) (k : ℕ) (found : Option NetNode) (x : Option Sent)
    → slice_get w.nodes k ≡ found → ((y : Sent) → x ≡ Some y → SentKept w.history y)
    → Always IsTypedMove (delivered w k found x).history → NetworkKept w
    → NetworkKept (delivered w k found x)
delivered_kept w k None x is sent typed h = h
delivered_kept w k (Some node) None is sent typed h = h
delivered_kept w k (Some node) (Some x) is sent typed h =
    either (reaches x.to (place_of x.protocol node.setup)) refl typed
  where
    event : EventModel
    event = DatagramIs x.protocol x.from x.to x.bytes

    either : (b : Bool) → reaches x.to (place_of x.protocol node.setup) ≡ b
        → Always IsTypedMove
        (let v : Network = (if b then moves_at w k (Some node) event else w) in v).history
        → NetworkKept (if b then moves_at w k (Some node) event else w)
    either true there fits =
        unless_kept w k (refused_as (length node.slots) node.globals event) node event is
        (sent_here x.protocol w.history h.were_single x.from x.to (place_of x.protocol node.setup)
        x.bytes there (sent x refl))
        fits h
    either false there fits = h

step_kept : (w : Network) (step : Step) → Always IsTypedMove (network_step w step).history
    → NetworkKept w → NetworkKept (network_step w step)
step_kept w (CallAt k s call) typed h =
    moves_kept w k (CallIs s call) (slice_get w.nodes k) refl (λ node. tt) typed h
step_kept w (MomentAt k t) typed h =
    moves_kept w k (MomentIs t) (slice_get w.nodes k) refl (λ node. tt) typed h
step_kept w (TopologyAt k topo) typed h =
    moves_kept w k (TopologyIs topo) (slice_get w.nodes k) refl (λ node. tt) typed h
step_kept w (RoleAt k group leader) typed h =
    moves_kept w k (RoleIs group leader) (slice_get w.nodes k) refl (λ node. tt) typed h
step_kept w (AddSlotAt k quotas) typed h =
    moves_kept w k (AddSlotIs quotas) (slice_get w.nodes k) refl (λ node. tt) typed h
step_kept w (DeliveryAt k which) typed h =
    delivered_kept w k (slice_get w.nodes k) (slice_get w.sent which) refl
    (λ x at. each_get (SentKept w.history) w.sent which x h.sent at) typed h

-- what held of all moves held of those before
unless_before : (P : Move → List Move → Type 0) (w : Network) (k : ℕ) (fault : Option NodeFault)
    (node : NetNode) (event : EventModel) → Always P (moves_unless fault w k node event).history
    → Always P w.history
unless_before P w k (Some fault) node event h = h
unless_before P w k None node event h = h.1

at_before : (P : Move → List Move → Type 0) (w : Network) (k : ℕ) (found : Option NetNode)
    (event : EventModel) → Always P (moves_at w k found event).history → Always P w.history
at_before P w k None event h = h
at_before P w k (Some node) event h =
    unless_before P w k (refused_as (length node.slots) node.globals event) node event h

delivered_before : (P : Move → List Move → Type 0) (w : Network) (k : ℕ) (found : Option NetNode)
    (x : Option Sent) → Always P (delivered w k found x).history → Always P w.history
delivered_before P w k None x h = h
delivered_before P w k (Some node) None h = h
delivered_before P w k (Some node) (Some x) h =
    either (reaches x.to (place_of x.protocol node.setup)) h
  where
    event : EventModel
    event = DatagramIs x.protocol x.from x.to x.bytes

    either : (b : Bool)
        → Always P
        (let v : Network = (if b then moves_at w k (Some node) event else w) in v).history
        → Always P w.history
    either true g = at_before P w k (Some node) event g
    either false g = g

step_before : (P : Move → List Move → Type 0) (w : Network) (step : Step)
    → Always P (network_step w step).history → Always P w.history
step_before P w (CallAt k s call) h = at_before P w k (slice_get w.nodes k) (CallIs s call) h
step_before P w (MomentAt k t) h = at_before P w k (slice_get w.nodes k) (MomentIs t) h
step_before P w (TopologyAt k topo) h = at_before P w k (slice_get w.nodes k) (TopologyIs topo) h
step_before P w (RoleAt k group leader) h =
    at_before P w k (slice_get w.nodes k) (RoleIs group leader) h
step_before P w (AddSlotAt k quotas) h =
    at_before P w k (slice_get w.nodes k) (AddSlotIs quotas) h
step_before P w (DeliveryAt k which) h =
    delivered_before P w k (slice_get w.nodes k) (slice_get w.sent which) h

-- what always held of a run always held of the network that it began from
pub run_before : (P : Move → List Move → Type 0) (w : Network) (steps : List Step)
    → Always P (network_run w steps).history → Always P w.history
run_before P w [] h = h
run_before P w (step ∷ steps) h = step_before P w step (run_before P (network_step w step) steps h)

run_kept : (w : Network) (steps : List Step) → Always IsTypedMove (network_run w steps).history
    → NetworkKept w → NetworkKept (network_run w steps)
run_kept w [] typed h = h
run_kept w (step ∷ steps) typed h =
    run_kept (network_step w step) steps typed
    (step_kept w step (run_before IsTypedMove (network_step w step) steps typed) h)

opened_node_kept : (configs : List ConfigModel) (k : ℕ) (node : NetNode)
    → slice_get (opened_network configs).nodes k ≡ Some node → NodeKept [] k node
opened_node_kept configs k node is s slot at =
    subst (λ (es : List Entry). Each (EntryKept [] node.setup k s) es)
    (sym (none_opened configs k node is s slot at)) tt

single_opened : (configs : List ConfigModel) → AreSingle configs → (k : ℕ) (node : NetNode)
    → slice_get (opened_network configs).nodes k ≡ Some node
    → is_group node.setup.address ≡ false
single_opened [] h k node is = absurd (cc)
single_opened (config ∷ configs) h zero node is =
    let e : net_node (opened_model config) ≡ node = cc is in
    subst (λ (x : NetNode). is_group x.setup.address ≡ false) e h.0
single_opened (config ∷ configs) h (suc k) node is = single_opened configs h.1 k node is

-- all of it is known after any run
pub every_run : (configs : List ConfigModel) (steps : List Step) → AreSingle configs
    → Always IsTypedMove (network_run (opened_network configs) steps).history
    → NetworkKept (network_run (opened_network configs) steps)
every_run configs steps single typed =
    run_kept (opened_network configs) steps typed (record {
      nodes = opened_node_kept configs;
      sent = tt;
      always = tt;
      single = single_opened configs single;
      were_single = tt;
    })
