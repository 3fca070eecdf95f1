use Rattle.std.proofs.Common.{◌≡◌, ℕ, ◌+◌, ◌*◌, ◌^◌, ◌<◌, ◌≤◌, length}
use Rattle.trdp_table.specs.Tables.{slot_in, room_of, changed_at, without_objects}
use Rattle.trdp_store.specs.Timed.{IsScheduled}
use Rattle.trdp_store.proofs.store.reset.take_all.Given as goal

-- without the objects that are left the table is what it is without all of them, and what was
-- compared leaves as many comparisons for each as one costs
abbrev pub invariant-loop-left : goal.invariant-loop-left
invariant-loop-left l = record {
  slot : l.slot < length l.table;
  count : length (slot_in l.slot l.table).objects ≡ l.left;
  scheduled : IsScheduled l.table l.schedule;
  others : changed_at l.slot without_objects l.table
      ≡ changed_at l.slot without_objects l.fn.table;
  cost : (b : ℕ) → room_of l.fn.table < 2 ^ b → l.comparisons + l.left * (2 * b + 2)
      ≤ length (slot_in l.slot l.fn.table).objects * (2 * b + 2);
}

abbrev pub decreases-loop-left : goal.decreases-loop-left
decreases-loop-left l = l.left
