-- What is counted is within the bounds.
-- For `Node::step`, `step_call` and `step_datagram`.
-- By arithmetic.
use Rattle.std.proofs.Common.{◌≡◌, ℕ, ◌+◌, ◌*◌, ◌≤◌, List, length}
use Rattle.std.proofs.Common.{Option, Some, ap, arith, Result, Ok, Err, OnOk}
use Rattle.std.proofs.lemmas.Nat.{mul-le}
use Rattle.trdp_filter.specs.Telegrams.{TelegramModel}
use Rattle.trdp_store.specs.declared.counts.Counts.{Counts}
use Rattle.trdp_model.specs.declared.fault.NodeFault.{NodeFault}
use Rattle.trdp_model.specs.Slots.{SlotState}
use Rattle.trdp_model.specs.Events.{EventModel, MomentIs, TopologyIs, RoleIs, DatagramIs, CallIs}
use Rattle.trdp_model.specs.Events.{AddSlotIs}
use Rattle.trdp_store.specs.Counting.{no_counts}
use Rattle.trdp_datagrams.specs.Meant.{meant_of}
use Rattle.trdp_engine.specs.Costs.{datagram_bounds, IsWithin, IsBounded}

-- a reading, and then a part for each of those that the telegram is for
pub read_and_taken : (new read old n m b : ℕ) → read ≤ old + 4 * b
    → new ≤ read + n * (2 * b + 2) → n ≤ m → new ≤ old + (8 * b + m * (2 * b + 2))
read_and_taken new read old n m b one two few =
    let times = mul-le n (2 * b + 2) m (2 * b + 2) few (omega arith) in
    omega (arith, one, two, times)

-- what a telegram cost that came, from nothing on
pub costs :
    (none counts : Counts) (b : ℕ) (came : Option TelegramModel) (telegram : TelegramModel)
    (slots : List SlotState) → none ≡ no_counts → came ≡ Some telegram
    → counts.comparisons
    ≤ none.comparisons + (8 * b + meant_of telegram slots * (2 * b + 2))
    → counts.tests ≤ none.tests + 2 * meant_of telegram slots
    → counts.look_ups ≤ none.look_ups + (2 * length slots + meant_of telegram slots)
    → IsWithin counts (datagram_bounds b slots came)
costs none counts b came telegram slots nothing is comparisons tests look_ups = rw is (record {
  comparisons = omega (arith, comparisons, ap (λ (c : Counts). c.comparisons) nothing);
  tests = omega (arith, tests, ap (λ (c : Counts). c.tests) nothing);
  look_ups = omega (arith, look_ups, ap (λ (c : Counts). c.look_ups) nothing);
})

pub within_none : (counts most : Counts) → counts ≡ no_counts → IsWithin counts most
within_none counts most is = record {
  comparisons = omega (arith, ap (λ (c : Counts). c.comparisons) is);
  tests = omega (arith, ap (λ (c : Counts). c.tests) is);
  look_ups = omega (arith, ap (λ (c : Counts). c.look_ups) is);
}

-- counting nothing is within the bounds of every event
pub bounded_none : (slots : List SlotState) (event : EventModel) (counts : Counts)
    → counts ≡ no_counts → IsBounded slots event counts
bounded_none slots (MomentIs t) counts is = λ b lt. within_none counts _ is
bounded_none slots (TopologyIs topo) counts is = λ b lt. within_none counts _ is
bounded_none slots (RoleIs group leader) counts is = λ b lt. within_none counts _ is
bounded_none slots (DatagramIs protocol src dst bytes) counts is = λ b lt. within_none counts _ is
bounded_none slots (CallIs s call) counts is = λ b lt. within_none counts _ is
bounded_none slots (AddSlotIs quotas) counts is = λ b lt. within_none counts _ is

-- the same of an event that was accepted
pub bounded_if : (result : Result (Unit {0}) NodeFault)
    (slots : List SlotState) (event : EventModel) (counts : Counts)
    → OnOk result (counts ≡ no_counts) → OnOk result (IsBounded slots event counts)
bounded_if (Ok done) slots event counts is = bounded_none slots event counts is
bounded_if (Err fault) slots event counts is = tt
