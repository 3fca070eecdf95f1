use Rattle.std.proofs.Common.{◌+◌, ◌*◌, ◌≤◌, ◌∙◌, length, arith}
use Rattle.trdp_table.specs.Tables.{slot_in}
use Rattle.trdp_store.proofs.OrderLemmas.Emptied.{length_alike, room_alike, paid}
use Rattle.trdp_store.proofs.store.reset.take_all.Goals as goal

pub loop-left-preserved : goal.loop-left-preserved
loop-left-preserved c = record {
  slot = omega (
    arith,
    c.loop-left.invariant.slot,
    length_alike c.take_at.new.table c.loop-left.table c.args.slot c.take_at.ensures.others,
  );
  count = omega (
    arith,
    c.take_at.ensures.fewer,
    c.loop-left.invariant.count,
    c.loop-left-test.true,
  );
  scheduled = c.take_at.ensures.scheduled;
  others = c.take_at.ensures.others ∙ c.loop-left.invariant.others;
  cost = λ b within.
      let same = room_alike c.loop-left.table c.args.table.now c.args.slot
      c.loop-left.invariant.others c.loop-left.invariant.slot c.requires.slot in
      let one = c.take_at.ensures.cost b (omega (arith, within, same)) in
      let sum : c.saturating_add-comparisons.result
      ≤ c.loop-left.comparisons + c.take_at.result =
      omega (arith, c.saturating_add-comparisons.ensures) in
      let all = length (slot_in c.args.slot c.args.table.now).objects * (2 * b + 2) in
      paid c.loop-left.comparisons c.take_at.result c.saturating_add-comparisons.result
      c.loop-left.left (2 * b + 2) all (omega (arith, c.loop-left-test.true))
      (c.loop-left.invariant.cost b within) one sum;
}
