use Rattle.std.proofs.Common.{◌≡◌, ◌≤◌}
use Rattle.trdp_node.specs.Reading.{IsReadTo}
use Rattle.trdp_node.proofs.cursor.Cursor.moved_to.Given as goal

-- so many records are passed, and no more than come before the one of the index
abbrev pub invariant-loop-passed : goal.invariant-loop-passed
invariant-loop-passed l = record {
  reads : IsReadTo l.outbox.records l.cursor;
  count : l.cursor.passed ≡ l.passed;
  few : l.passed ≤ l.index;
}
