-- What a slot of a node was before the event: a slot, or nothing where it is opened.
-- For `RunLemmas`, `TypedRunLemmas` and `HeardRunLemmas`, which go from a slot to a node.
-- By the number of the slot: below their number before, or past it, and then it is empty.
use Rattle.std.proofs.Common.{◌≡◌, ℕ, zero, suc, ◌+◌, List, [], ◌∷◌, map, Some, refl, ap, sym}
use Rattle.std.proofs.Common.{subst, arith, inl, inr, slice_get}
use Rattle.trdp_dataset.specs.Configs.{ConfigModel, SlotModel}
use Rattle.trdp_filter.specs.declared.globals.Globals.{Globals}
use Rattle.trdp_model.specs.Configs.{NodeSetup}
use Rattle.trdp_model.specs.Events.{EventModel, MomentIs, TopologyIs, RoleIs, DatagramIs, CallIs}
use Rattle.trdp_model.specs.Events.{AddSlotIs}
use Rattle.trdp_model.specs.Slots.{SlotState, empty_slot}
use Rattle.trdp_model.specs.Alone.{opened_by, plain_effect}
use Rattle.trdp_model.specs.NodeModels.{opened_model}
use Rattle.trdp_net.specs.Networks.{NetNode, net_node, plain_slots, opened_network}
use Rattle.trdp_net.specs.Provenance.{In}

-- a slot after the event is the slot before it, moved
pub slot_before : (setup : NodeSetup) (globals : Globals) (event : EventModel) (s : ℕ)
    (slots : List SlotState) (j : ℕ) (after : SlotState)
    → slice_get (plain_slots setup globals event s slots) j ≡ Some after
    → (slot : SlotState) × (slice_get slots j ≡ Some slot)
    × ((plain_effect setup (s + j) slot globals event).slot ≡ after)
slot_before setup globals event s [] j after is = absurd (cc)
slot_before setup globals event s (x ∷ xs) zero after is =
    let e : s + zero ≡ s = omega arith in
    let i : (plain_effect setup s x globals event).slot ≡ after = cc is in (
      x,
      refl,
      subst (λ (n : ℕ). (plain_effect setup n x globals event).slot ≡ after) (sym e) i,
    )
slot_before setup globals event s (x ∷ xs) (suc j) after is =
    let rest = slot_before setup globals event (suc s) xs j after is in
    let e : s + suc j ≡ suc s + j = omega arith in (
      rest.0,
      rest.1,
      subst (λ (n : ℕ). (plain_effect setup n rest.0 globals event).slot ≡ after) (sym e) rest.2,
    )

-- a slot that is opened is empty
pub opened_empty : (event : EventModel) (slot : SlotState) → In slot (opened_by event)
    → slot.objects ≡ []
opened_empty (AddSlotIs quotas) slot (inl is) = ap (λ (x : SlotState). x.objects) (sym is)
opened_empty (AddSlotIs quotas) slot (inr is) = absurd is
opened_empty (MomentIs t) slot is = absurd is
opened_empty (TopologyIs topo) slot is = absurd is
opened_empty (RoleIs group leader) slot is = absurd is
opened_empty (DatagramIs protocol src dst bytes) slot is = absurd is
opened_empty (CallIs r call) slot is = absurd is

-- nodes that were just opened
slots_empty : (quotas : List SlotModel) (s : ℕ) (slot : SlotState)
    → slice_get (map (λ q. empty_slot q.quotas) quotas) s ≡ Some slot → slot.objects ≡ []
slots_empty [] s slot is = absurd (cc)
slots_empty (q ∷ quotas) zero slot is =
    let e : empty_slot q.quotas ≡ slot = cc is in ap (λ (x : SlotState). x.objects) (sym e)
slots_empty (q ∷ quotas) (suc s) slot is = slots_empty quotas s slot is

-- a node that was just opened has no objects
pub none_opened : (configs : List ConfigModel) (k : ℕ) (node : NetNode)
    → slice_get (opened_network configs).nodes k ≡ Some node
    → (s : ℕ) (slot : SlotState) → slice_get node.slots s ≡ Some slot → slot.objects ≡ []
none_opened [] k node is s slot at = absurd (cc)
none_opened (config ∷ configs) zero node is s slot at =
    let e : net_node (opened_model config) ≡ node = cc is in
    slots_empty config.slots s slot
    (subst (λ (x : NetNode). slice_get x.slots s ≡ Some slot) (sym e) at)
none_opened (config ∷ configs) (suc k) node is s slot at = none_opened configs k node is s slot at
