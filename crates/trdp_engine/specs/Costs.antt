-- What an event costs a node, and the most that it may cost.
use Rattle.std.specs.Prelude.{ℕ, ◌+◌, ◌*◌, ◌^◌, ◌<◌, ◌≤◌, List, length}
use Rattle.std.specs.Prelude.{Option, Some, None}
use Rattle.trdp_filter.specs.Telegrams.{TelegramModel}
use Rattle.trdp_store.specs.declared.counts.Counts.{Counts}
use Rattle.trdp_model.specs.Slots.{SlotState}
use Rattle.trdp_model.specs.Events.{EventModel, MomentIs, TopologyIs, RoleIs, DatagramIs, CallIs}
use Rattle.trdp_model.specs.Events.{AddSlotIs}
use Rattle.trdp_model.specs.Datagrams.{telegram_of}
use Rattle.trdp_model.specs.NodeModels.{due_in}
use Rattle.trdp_store.specs.Counting.{no_counts}
use Rattle.trdp_datagrams.specs.Meant.{meant_of, quota_total}

-- the most that a telegram costs which may be for m objects, with n slots
abbrev pub telegram_bounds : ℕ → ℕ → ℕ → Counts
telegram_bounds b n m = record {
  comparisons = 8 * b + 8 + m * (2 * b + 2);
  tests = 2 * m;
  look_ups = 2 * n + m;
}

-- the most that a datagram costs: nothing where it is no telegram
abbrev pub datagram_bounds : ℕ → List SlotState → Option TelegramModel → Counts
datagram_bounds b slots None = no_counts
datagram_bounds b slots (Some telegram) =
    telegram_bounds b (length slots) (meant_of telegram slots)

-- the most that a moment costs by which k objects are due
abbrev pub moment_bounds : ℕ → ℕ → Counts
moment_bounds b k = record { comparisons = k * (4 * b + 9) + 3; tests = 0; look_ups = k }

-- no number is above its bound
pub record IsWithin (counts bounds : Counts) : Type 0 where
  pub comparisons : counts.comparisons ≤ bounds.comparisons
  pub tests : counts.tests ≤ bounds.tests
  pub look_ups : counts.look_ups ≤ bounds.look_ups

-- an event cost these slots, whose quotas allow less than 2^b objects, no more than its bounds;
-- at a call and at the opening of a slot nothing is counted
abbrev pub IsBoundedBy : ℕ → List SlotState → EventModel → Counts → Type 0
IsBoundedBy b slots (MomentIs t) counts = IsWithin counts (moment_bounds b (due_in t slots))
IsBoundedBy b slots (TopologyIs topo) counts = IsWithin counts no_counts
IsBoundedBy b slots (RoleIs group leader) counts = IsWithin counts no_counts
IsBoundedBy b slots (DatagramIs protocol src dst bytes) counts =
    IsWithin counts (datagram_bounds b slots (telegram_of protocol src dst bytes))
IsBoundedBy b slots (CallIs s call) counts = IsWithin counts no_counts
IsBoundedBy b slots (AddSlotIs quotas) counts = IsWithin counts no_counts

-- the same of every such b
abbrev pub IsBounded : List SlotState → EventModel → Counts → Type 0
IsBounded slots event counts =
    (b : ℕ) → quota_total slots < 2 ^ b → IsBoundedBy b slots event counts
