-- One event of the node, as it is seen at a slot's number.
-- For `view_drops_nothing`, and for a node's run.
-- By cases: the event is seen at the number, opens it, or does nothing there.
use Rattle.std.proofs.Common.{◌≡◌, ℕ, ◌<◌, List, ◌∷◌, ◌++◌, Some, None, Option, Bool}
use Rattle.std.proofs.Common.{IfSome, true, false, [], refl, ap, sym, arith, append_assoc}
use Rattle.std.specs.Prelude.{◌==◌, ◌&&◌, not, nat_le, nat_lt, if◌then◌else◌}
use Rattle.std.proofs.lemmas.Bool.Decides.{nat_tests}
use Rattle.trdp_model.specs.Configs.{NodeSetup}
use Rattle.trdp_filter.specs.declared.globals.Globals.{Globals}
use Rattle.trdp_model.specs.declared.fault.NodeFault.{NodeFault}
use Rattle.trdp_model.specs.Records.{Content}
use Rattle.trdp_model.specs.Events.{EventModel, MomentIs, TopologyIs}
use Rattle.trdp_model.specs.Events.{RoleIs, DatagramIs, CallIs, AddSlotIs, CallModel}
use Rattle.trdp_base.specs.Moments.{last_moment}
use Rattle.trdp_filter.specs.Telegrams.{TelegramModel}
use Rattle.trdp_model.specs.Slots.{slot_limit}
use Rattle.trdp_model.specs.Slots.{SlotState, unchanged}
use Rattle.trdp_model.specs.Calls.{called}
use Rattle.trdp_model.specs.Datagrams.{telegram_of, received_if, concerns}
use Rattle.trdp_model.proofs.UnconcernedSlotLemmas.{unconcerned}
use Rattle.trdp_model.specs.Alone.{refused_as, globals_after, is_in_view, plain_effect}
use Rattle.trdp_model.specs.Alone.{Run, prepend, alone_in_view, slot_after, records_after}
use Rattle.trdp_model.specs.Alone.{is_seen, standing_after, none_there, opened_by, slots_then}

-- an admitted event that isn't seen at a number leaves the globals
globals_after-unseen : (s n : ℕ) (slot : Option SlotState) (globals : Globals) (event : EventModel)
    → refused_as n globals event ≡ None → is_seen s n slot globals event ≡ false
    → globals_after globals event ≡ globals
globals_after-unseen s n (Some slot) globals (MomentIs t) admitted unseen =
    absurd (grind (arith, nat_tests))
globals_after-unseen s n None globals (MomentIs t) admitted unseen =
    absurd (grind (arith, nat_tests))
globals_after-unseen s n (Some slot) globals (TopologyIs topo) admitted unseen = absurd (cc)
globals_after-unseen s n None globals (TopologyIs topo) admitted unseen = absurd (cc)
globals_after-unseen s n (Some slot) globals (RoleIs group leader) admitted unseen =
    absurd (grind (arith, nat_tests))
globals_after-unseen s n None globals (RoleIs group leader) admitted unseen =
    absurd (grind (arith, nat_tests))
globals_after-unseen s n slot globals (DatagramIs protocol src dst bytes) admitted unseen = refl
globals_after-unseen s n slot globals (CallIs r call) admitted unseen = refl
globals_after-unseen s n slot globals (AddSlotIs quotas) admitted unseen = refl

-- an event that isn't admitted is seen at no number
refused_is_unseen : (s n : ℕ) (slot : Option SlotState) (globals : Globals) (event : EventModel)
    (fault : NodeFault) → IfSome slot (λ x. s < n) → refused_as n globals event ≡ Some fault
    → is_seen s n slot globals event ≡ false
refused_is_unseen s n (Some slot) globals (MomentIs t) fault within bad = grind (arith, nat_tests)
refused_is_unseen s n None globals (MomentIs t) fault within bad = grind (arith, nat_tests)
refused_is_unseen s n slot globals (TopologyIs topo) fault within bad = absurd (cc)
refused_is_unseen s n (Some slot) globals (RoleIs group leader) fault within bad =
    grind (arith, nat_tests)
refused_is_unseen s n None globals (RoleIs group leader) fault within bad =
    grind (arith, nat_tests)
refused_is_unseen s n slot globals (DatagramIs protocol src dst bytes) fault within bad =
    absurd (cc)
refused_is_unseen s n (Some slot) globals (CallIs r call) fault within bad =
    grind (arith, nat_tests)
refused_is_unseen s n None globals (CallIs r call) fault within bad = refl
refused_is_unseen s n (Some slot) globals (AddSlotIs quotas) fault within bad = refl
refused_is_unseen s n None globals (AddSlotIs quotas) fault within bad = grind (arith, nat_tests)

-- nor does it open a slot
pub refused_opens_none : (n : ℕ) (globals : Globals) (event : EventModel) (fault : NodeFault)
    → refused_as n globals event ≡ Some fault → slots_then n event ≡ n
refused_opens_none n globals (MomentIs t) fault bad = refl
refused_opens_none n globals (TopologyIs topo) fault bad = refl
refused_opens_none n globals (RoleIs group leader) fault bad = refl
refused_opens_none n globals (DatagramIs protocol src dst bytes) fault bad = refl
refused_opens_none n globals (CallIs r call) fault bad = refl
refused_opens_none n globals (AddSlotIs quotas) fault bad =
    let full : nat_lt n slot_limit ≡ false = grind (arith, nat_tests) in rw full refl

-- an admitted event comes first in the run
pub admitted_first : (setup : NodeSetup) (s n : ℕ)
    (slot : Option SlotState) (globals : Globals) (event : EventModel) (later : List EventModel)
    → refused_as n globals event ≡ None → alone_in_view setup s n slot globals (event ∷ later)
    ≡ prepend (standing_after setup s n slot globals event).records (alone_in_view setup s
    (slots_then n event) (standing_after setup s n slot globals event).slot
    (globals_after globals event) later)
admitted_first setup s n slot globals event later admitted =
    seen_or_not (is_seen s n slot globals event) refl
  where
    seen_or_not : (seen : Bool) → is_seen s n slot globals event ≡ seen
        → alone_in_view setup s n slot globals (event ∷ later)
        ≡ prepend (standing_after setup s n slot globals event).records (alone_in_view setup s
        (slots_then n event) (standing_after setup s n slot globals event).slot
        (globals_after globals event) later)
    seen_or_not true is = rw is refl
    seen_or_not false is = rw (is, globals_after-unseen s n slot globals event admitted is) refl

-- an event that isn't admitted leaves the run
pub refused_first : (setup : NodeSetup) (s n : ℕ) (slot : Option SlotState) (globals : Globals)
    (event : EventModel) (later : List EventModel) (fault : NodeFault)
    → IfSome slot (λ x. s < n) → refused_as n globals event ≡ Some fault
    → alone_in_view setup s n slot globals (event ∷ later)
    ≡ alone_in_view setup s n slot globals later
refused_first setup s n slot globals event later fault within bad =
    rw (
      refused_is_unseen s n slot globals event fault within bad,
      refused_opens_none n globals event fault bad,
    ) refl

pub prepend-prepend : (xs ys : List Content) (run : Run)
    → prepend xs (prepend ys run) ≡ prepend (xs ++ ys) run
prepend-prepend xs ys run = ap (λ (records : List Content). let r : Run = record {
  slot = run.slot;
  globals = run.globals;
  records = records;
} in r) (sym (append_assoc xs ys run.records))

-- an admitted event that a slot doesn't see does nothing in its own model
pub view_is_plain :
    (setup : NodeSetup) (s n : ℕ) (slot : SlotState) (globals : Globals) (event : EventModel)
    → refused_as n globals event ≡ None → plain_effect setup s slot globals event ≡ record {
      slot =
          slot_after setup s slot globals event;
      records = records_after setup s slot globals event;
    }
view_is_plain setup s n slot globals (MomentIs t) admitted =
    let seen : (nat_le globals.now t && nat_le t last_moment) ≡ true = grind (arith, nat_tests) in
    rw seen refl
view_is_plain setup s n slot globals (TopologyIs topo) admitted = refl
view_is_plain setup s n slot globals (RoleIs group leader) admitted =
    let seen : not (group == 0) ≡ true = grind (arith, nat_tests) in
    rw seen refl
view_is_plain setup s n slot globals (DatagramIs protocol src dst bytes) admitted =
    either setup slot globals (telegram_of protocol src dst bytes)
    (concerns globals (telegram_of protocol src dst bytes) slot) refl
  where
    either : (setup : NodeSetup) (slot : SlotState)
        (globals : Globals) (telegram : Option TelegramModel) (b : Bool)
        → concerns globals telegram slot ≡ b → received_if setup slot globals telegram
        ≡ record {
          slot = if b then (received_if setup slot globals telegram).slot else slot;
          records = if b then (received_if setup slot globals telegram).records else [];
        }
    either setup slot globals telegram true is = refl
    either setup slot globals telegram false is = unconcerned setup slot globals telegram is
view_is_plain setup s n slot globals (AddSlotIs quotas) admitted = refl
view_is_plain setup s n slot globals (CallIs r call) admitted =
    either setup slot globals call (r == s)
  where
    either :
        (setup : NodeSetup) (slot : SlotState) (globals : Globals) (call : CallModel) (b : Bool)
        → (if b then called setup slot globals call else unchanged slot)
        ≡ record {
          slot = if b then (called setup slot globals call).slot else slot;
          records = if b then (called setup slot globals call).records else [];
        }
    either setup slot globals call true = refl
    either setup slot globals call false = refl

-- what an event does to an open slot
pub standing_open : (setup : NodeSetup) (s n : ℕ) (slot : SlotState) (globals : Globals)
    (event : EventModel) → standing_after setup s n (Some slot) globals event ≡ record {
      slot = Some (slot_after setup s slot globals event);
      records = records_after setup s slot globals event;
    }
standing_open setup s n slot globals event = seen_or_not (is_in_view s slot globals event) refl
  where
    seen_or_not : (seen : Bool) → is_in_view s slot globals event ≡ seen
        → standing_after setup s n (Some slot) globals event ≡ record {
          slot = Some (slot_after setup s slot globals event);
          records = records_after setup s slot globals event;
        }
    seen_or_not true is = rw is refl
    seen_or_not false is = rw is refl

-- and to a number where no slot is open, where it opens none
pub standing_none : (setup : NodeSetup) (s n : ℕ) (globals : Globals) (event : EventModel)
    → opened_by event ≡ [] → standing_after setup s n None globals event ≡ none_there
standing_none setup s n globals (MomentIs t) none = either (is_seen s n None globals (MomentIs t))
  where
    either : (b : Bool) → (if b then none_there else none_there) ≡ none_there
    either true = refl
    either false = refl
standing_none setup s n globals (TopologyIs topo) none = refl
standing_none setup s n globals (RoleIs group leader) none =
    either (is_seen s n None globals (RoleIs group leader))
  where
    either : (b : Bool) → (if b then none_there else none_there) ≡ none_there
    either true = refl
    either false = refl
standing_none setup s n globals (DatagramIs protocol src dst bytes) none = refl
standing_none setup s n globals (CallIs r call) none = refl
standing_none setup s n globals (AddSlotIs quotas) none = absurd (cc)

-- the number of slots then
pub slots_stay : (n : ℕ) (event : EventModel) → opened_by event ≡ [] → slots_then n event ≡ n
slots_stay n (MomentIs t) none = refl
slots_stay n (TopologyIs topo) none = refl
slots_stay n (RoleIs group leader) none = refl
slots_stay n (DatagramIs protocol src dst bytes) none = refl
slots_stay n (CallIs r call) none = refl
slots_stay n (AddSlotIs quotas) none = absurd (cc)
