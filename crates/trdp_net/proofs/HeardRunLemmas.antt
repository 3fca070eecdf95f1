-- No two answers that are reported to one caller come from one place.
-- For `no_invented_reply`, its clause `distinct`, and for `no_early_done`, through `DoneLemmas`.
-- By induction on the steps: what was reported to a caller is among what it knows, no place twice.
use Rattle.std.proofs.Common.{◌≡◌, ℕ, zero, suc, ◌+◌, List, [], ◌∷◌, ◌++◌, map, Option, Some}
use Rattle.std.proofs.Common.{None, Bool, true, false, refl, sym, ◌∙◌, subst, arith}
use Rattle.std.proofs.Common.{slice_get, length}
use Rattle.std.specs.Prelude.{◌==◌, slice_set, if◌then◌else◌}
use Rattle.std.proofs.lemmas.Bool.Decides.{nat_tests}
use Rattle.trdp_base.specs.declared.place.Place.{Place}
use Rattle.trdp_dataset.specs.Configs.{ConfigModel, SlotModel}
use Rattle.trdp_filter.specs.declared.globals.Globals.{Globals}
use Rattle.trdp_model.specs.declared.fault.NodeFault.{NodeFault}
use Rattle.trdp_model.specs.Configs.{NodeSetup}
use Rattle.trdp_model.specs.Events.{EventModel, MomentIs, TopologyIs, RoleIs, DatagramIs, CallIs}
use Rattle.trdp_model.specs.Events.{AddSlotIs}
use Rattle.trdp_model.specs.Alone.{opened_by}
use Rattle.trdp_model.specs.Slots.{SlotState, empty_slot}
use Rattle.trdp_model.specs.Alone.{refused_as, plain_effect}
use Rattle.trdp_net.specs.Networks.{NetNode, place_of, Sent, Move, Network, Step, CallAt}
use Rattle.trdp_net.specs.Networks.{MomentAt, TopologyAt, RoleAt, DeliveryAt, AddSlotAt}
use Rattle.trdp_net.specs.Networks.{plain_node, moves, moves_unless, moves_at, reaches, delivered}
use Rattle.trdp_net.specs.Networks.{network_step, network_run, opened_network, plain_slots}
use Rattle.trdp_net.specs.Provenance.{Always, Spot}
use Rattle.trdp_net.specs.Promises.{history, replied_in, told_in, all_replied}
use Rattle.trdp_net.specs.Promises.{AreDistinct}
use Rattle.trdp_net.proofs.HeardEntryLemmas.{HeardSlot, heard_same}
use Rattle.trdp_net.proofs.HeardSlotLemmas.{effect_heard}
use Rattle.trdp_net.proofs.Explained.{spot}

-- what was reported at a slot, or nothing where there is none
abbrev pub HeardAt : (ℕ → List Place) → Option SlotState → Type 0
HeardAt old None = (h : ℕ) → old h ≡ []
HeardAt old (Some slot) = HeardSlot old slot

-- the slot of a node, if there are both
abbrev slot_in : Option NetNode → ℕ → Option SlotState
slot_in None s = None
slot_in (Some node) s = slice_get node.slots s

-- what had been reported to the objects of each slot of the move's node before it
abbrev pub HeardBefore : Move → List Move → Type 0
HeardBefore m past =
    (s : ℕ) → HeardAt (λ h. all_replied (spot m.node s h) past) (slice_get m.before.slots s)

-- what was reported to the objects of each slot in the history, and before each move
pub record HeardNetwork (w : Network) : Type 0 where
  pub nodes : (k s : ℕ) → HeardAt (λ h. all_replied (spot k s h) w.history)
      (slot_in (slice_get w.nodes k) s)
  pub always : Always HeardBefore w.history

heard_at_same : (old new : ℕ → List Place) (slot : Option SlotState)
    → ((h : ℕ) → old h ≡ new h) → HeardAt old slot → HeardAt new slot
heard_at_same old new None same is = λ h. sym (same h) ∙ is h
heard_at_same old new (Some slot) same is = heard_same old new slot same is

-- a slot that is opened, of which nothing was reported
opened_heard_by : (event : EventModel) (j : ℕ) (old : ℕ → List Place)
    → ((h : ℕ) → old h ≡ []) → HeardAt old (slice_get (opened_by event) j)
opened_heard_by (AddSlotIs quotas) zero old none = record {
  only = tt;
  below = tt;
  fresh = λ h above. none h;
  covers = tt;
  distinct = λ h. subst (λ (ps : List Place). AreDistinct ps) (sym (none h)) tt;
}
opened_heard_by (AddSlotIs quotas) (suc j) old none = none
opened_heard_by (MomentIs t) j old none = none
opened_heard_by (TopologyIs topo) j old none = none
opened_heard_by (RoleIs group leader) j old none = none
opened_heard_by (DatagramIs protocol src dst bytes) j old none = none
opened_heard_by (CallIs r call) j old none = none

-- a slot of the node that moves
moved_slot : (setup : NodeSetup) (globals : Globals) (event : EventModel) (from : ℕ)
    (slots : List SlotState) (j : ℕ) (old : ℕ → List Place) (m : Move)
    → m.before.setup ≡ setup → m.before.globals ≡ globals → m.event ≡ event
    → HeardAt old (slice_get slots j)
    → HeardAt (λ h. replied_in h (told_in (from + j) m (slice_get slots j)) ++ old h)
    (slice_get (plain_slots setup globals event from slots ++ opened_by event) j)
moved_slot setup globals event from [] j old m is_setup is_globals is_event heard =
    opened_heard_by event j old heard
moved_slot setup globals event from (slot ∷ slots) zero old m is_setup is_globals is_event heard =
    let e : from + zero ≡ from = omega arith in
    subst
    (λ (n : ℕ). HeardSlot
    (λ h. replied_in h (plain_effect m.before.setup n slot m.before.globals m.event).records
    ++ old h)
    (plain_effect setup from slot globals event).slot)
    (sym e)
    (subst
    (λ (c : NodeSetup). HeardSlot
    (λ h. replied_in h (plain_effect c from slot m.before.globals m.event).records ++ old h)
    (plain_effect setup from slot globals event).slot)
    (sym is_setup)
    (subst
    (λ (g : Globals). HeardSlot
    (λ h. replied_in h (plain_effect setup from slot g m.event).records ++ old h)
    (plain_effect setup from slot globals event).slot)
    (sym is_globals)
    (subst
    (λ (v : EventModel). HeardSlot
    (λ h. replied_in h (plain_effect setup from slot globals v).records ++ old h)
    (plain_effect setup from slot globals event).slot)
    (sym is_event) (effect_heard old setup from slot globals event heard))))
moved_slot setup globals event from (slot ∷ slots) (suc j) old m is_setup is_globals is_event
    heard =
    let e : from + suc j ≡ suc from + j = omega arith in
    subst
    (λ (n : ℕ). HeardAt (λ h. replied_in h (told_in n m (slice_get slots j)) ++ old h)
    (slice_get (plain_slots setup globals event (suc from) slots ++ opened_by event) j))
    (sym e)
    (moved_slot setup globals event (suc from) slots j old m is_setup is_globals is_event heard)

-- what is set at k is found there, and all others are as before
set_there : {A : Type 0} (xs : List A) (k : ℕ) (x y : A) → slice_get xs k ≡ Some x
    → slice_get (slice_set xs k y) k ≡ Some y
set_there [] k x y is = absurd (cc)
set_there (z ∷ xs) zero x y is = refl
set_there (z ∷ xs) (suc k) x y is = set_there xs k x y is

set_elsewhere : {A : Type 0} (xs : List A) (k j : ℕ) (y : A) → (k == j) ≡ false
    → slice_get (slice_set xs k y) j ≡ slice_get xs j
set_elsewhere [] k j y other = refl
set_elsewhere (z ∷ xs) zero zero y other = absurd (cc)
set_elsewhere (z ∷ xs) zero (suc j) y other = refl
set_elsewhere (z ∷ xs) (suc k) zero y other = refl
set_elsewhere (z ∷ xs) (suc k) (suc j) y other =
    let not : (k == j) ≡ false = grind (arith, nat_tests) in set_elsewhere xs k j y not

-- the slots of a node, known by its number
node_heard : (w : Network) (k : ℕ) (node : NetNode) → slice_get w.nodes k ≡ Some node
    → HeardNetwork w → (s : ℕ)
    → HeardAt (λ h. all_replied (spot k s h) w.history) (slice_get node.slots s)
node_heard w k node is heard s =
    subst
    (λ (o : Option NetNode). HeardAt (λ h. all_replied (spot k s h) w.history) (slot_in o s)) is
    (heard.nodes k s)

moved_nodes : (w : Network) (k : ℕ) (node : NetNode) (event : EventModel)
    → slice_get w.nodes k ≡ Some node → HeardNetwork w → (j s : ℕ)
    → HeardAt (λ h. all_replied (spot j s h) (moves w k node event).history)
    (slot_in (slice_get (moves w k node event).nodes j) s)
moved_nodes w k node event is heard j s = either (k == j) refl
  where
    m : Move
    m = record { node = k; before = node; event = event }

    old : ℕ → List Place
    old h = all_replied (spot j s h) w.history

    from_zero : zero + s ≡ s
    from_zero = omega arith

    told : Bool → ℕ → List Place
    told b h =
        (if b then replied_in h (told_in s m (slice_get node.slots s)) else []) ++ old h

    either : (b : Bool) → (k == j) ≡ b
        → HeardAt (λ h. all_replied (spot j s h) (m ∷ w.history))
        (slot_in (slice_get (slice_set w.nodes k (plain_node node event)) j) s)
    either true same =
        let there : k ≡ j = grind (arith, nat_tests) in
        let is_j : slice_get w.nodes j ≡ Some node =
        subst (λ (n : ℕ). slice_get w.nodes n ≡ Some node) there is in
        let found : slice_get (slice_set w.nodes k (plain_node node event)) j
        ≡ Some (plain_node node event) =
        subst
        (λ (n : ℕ). slice_get (slice_set w.nodes k (plain_node node event)) n
        ≡ Some (plain_node node event))
        there (set_there w.nodes k node (plain_node node event) is) in
        subst
        (λ (o : Option NetNode).
        HeardAt (λ h. all_replied (spot j s h) (m ∷ w.history)) (slot_in o s))
        (sym found)
        (subst
        (λ (b : Bool). HeardAt (told b) (slice_get (plain_node node event).slots s))
        (sym same)
        (subst
        (λ (n : ℕ). HeardAt (λ h. replied_in h (told_in n m (slice_get node.slots s)) ++ old h)
        (slice_get (plain_node node event).slots s))
        from_zero
        (moved_slot node.setup node.globals event zero node.slots s old m refl refl refl
        (node_heard w j node is_j heard s))))
    either false other =
        subst
        (λ (o : Option NetNode).
        HeardAt (λ h. all_replied (spot j s h) (m ∷ w.history)) (slot_in o s))
        (sym (set_elsewhere w.nodes k j (plain_node node event) other))
        (subst (λ (b : Bool). HeardAt (told b) (slot_in (slice_get w.nodes j) s)) (sym other)
        (heard.nodes j s))

move_heard : (w : Network) (k : ℕ) (node : NetNode) (event : EventModel)
    → slice_get w.nodes k ≡ Some node → HeardNetwork w → HeardNetwork (moves w k node event)
move_heard w k node event is heard = record {
  nodes = moved_nodes w k node event is heard;
  always = (node_heard w k node is heard, heard.always);
}

unless_heard : (w : Network) (k : ℕ) (fault : Option NodeFault) (node : NetNode)
    (event : EventModel) → slice_get w.nodes k ≡ Some node → HeardNetwork w
    → HeardNetwork (moves_unless fault w k node event)
unless_heard w k (Some fault) node event is heard = heard
unless_heard w k None node event is heard = move_heard w k node event is heard

moves_heard : (w : Network) (k : ℕ) (found : Option NetNode) (event : EventModel)
    → slice_get w.nodes k ≡ found → HeardNetwork w → HeardNetwork (moves_at w k found event)
moves_heard w k None event is heard = heard
moves_heard w k (Some node) event is heard =
    unless_heard w k (refused_as (length node.slots) node.globals event) node event is heard

delivered_heard : (w : Network) (k : ℕ) (found : Option NetNode) (x : Option Sent)
    → slice_get w.nodes k ≡ found → HeardNetwork w → HeardNetwork (delivered w k found x)
delivered_heard w k None x is heard = heard
delivered_heard w k (Some node) None is heard = heard
delivered_heard w k (Some node) (Some x) is heard =
    either (reaches x.to (place_of x.protocol node.setup))
  where
    either : (b : Bool) → HeardNetwork
        (if b then moves_at w k (Some node) (DatagramIs x.protocol x.from x.to x.bytes) else w)
    either true =
        moves_heard w k (Some node) (DatagramIs x.protocol x.from x.to x.bytes) is heard
    either false = heard

step_heard : (w : Network) (step : Step) → HeardNetwork w → HeardNetwork (network_step w step)
step_heard w (CallAt k s call) heard =
    moves_heard w k (slice_get w.nodes k) (CallIs s call) refl heard
step_heard w (MomentAt k t) heard = moves_heard w k (slice_get w.nodes k) (MomentIs t) refl heard
step_heard w (TopologyAt k topo) heard =
    moves_heard w k (slice_get w.nodes k) (TopologyIs topo) refl heard
step_heard w (RoleAt k group leader) heard =
    moves_heard w k (slice_get w.nodes k) (RoleIs group leader) refl heard
step_heard w (AddSlotAt k quotas) heard =
    moves_heard w k (slice_get w.nodes k) (AddSlotIs quotas) refl heard
step_heard w (DeliveryAt k which) heard =
    delivered_heard w k (slice_get w.nodes k) (slice_get w.sent which) refl heard

run_heard : (w : Network) (steps : List Step) → HeardNetwork w
    → HeardNetwork (network_run w steps)
run_heard w [] heard = heard
run_heard w (step ∷ steps) heard = run_heard (network_step w step) steps (step_heard w step heard)

-- nothing was reported at first
opened_slot_heard : (slots : List SlotModel) (s : ℕ)
    → HeardAt (λ h. []) (slice_get (map (λ q. empty_slot q.quotas) slots) s)
opened_slot_heard [] s = λ h. refl
opened_slot_heard (q ∷ slots) zero =
    record { only = tt; below = tt; fresh = λ h above. refl; covers = tt; distinct = λ h. tt }
opened_slot_heard (q ∷ slots) (suc s) = opened_slot_heard slots s

opened_heard_at : (configs : List ConfigModel) (k s : ℕ)
    → HeardAt (λ h. []) (slot_in (slice_get (opened_network configs).nodes k) s)
opened_heard_at [] k s = λ h. refl
opened_heard_at (config ∷ configs) zero s = opened_slot_heard config.slots s
opened_heard_at (config ∷ configs) (suc k) s = opened_heard_at configs k s

opened_heard_network : (configs : List ConfigModel) → HeardNetwork (opened_network configs)
opened_heard_network configs = record { nodes = opened_heard_at configs; always = tt }

heard_distinct : (old : ℕ → List Place) (slot : Option SlotState) → HeardAt old slot
    → (h : ℕ) → AreDistinct (old h)
heard_distinct old None is h = subst (λ (ps : List Place). AreDistinct ps) (sym (is h)) tt
heard_distinct old (Some slot) is h = is.distinct h

-- no two answers of one place are reported to a caller
pub all_distinct : (configs : List ConfigModel) (steps : List Step) (caller : Spot)
    → AreDistinct (all_replied caller (history configs steps))
all_distinct configs steps caller =
    let w : Network = network_run (opened_network configs) steps in
    heard_distinct (λ h. all_replied (spot caller.node caller.slot h) w.history)
    (slot_in (slice_get w.nodes caller.node) caller.slot)
    ((run_heard (opened_network configs) steps (opened_heard_network configs)).nodes caller.node
    caller.slot)
    caller.handle

-- before each move of a run, no more had been reported to each object than it knew
pub always_heard : (configs : List ConfigModel) (steps : List Step)
    → Always HeardBefore (history configs steps)
always_heard configs steps =
    (run_heard (opened_network configs) steps (opened_heard_network configs)).always
