use Rattle.std.proofs.Common.{◌≡◌, ◌<◌, ◌≤◌, ◌+◌, arith, refl}
use Rattle.trdp_outbox.proofs.SlotOrderLemmas.Walk.{if_none}
use Rattle.trdp_node.proofs.ReadLemmas.{none_there, one_passed, shown_there}
use Rattle.trdp_node.proofs.cursor.Cursor.moved_to.Goals as goal

pub loop-passed-preserved : goal.loop-passed-preserved
loop-passed-preserved c =
    let test : c.loop-passed.passed < c.args.index = c.loop-passed-test.true in
    record {
      reads = one_passed c.args.outbox.now.records c.loop-passed.cursor c.loop-passed.passed
          c.in_ok-slot.slot c.in_ok-slot.at c.loop-passed.invariant.reads
          c.in_ok-slot.ensures.some c.loop-passed.invariant.count;
      count = refl;
      few = omega (arith, test);
    }

pub returns-in_err-at-clause-none : goal.returns-in_err-at-clause-none
returns-in_err-at-clause-none c =
    let few : c.loop-passed.cursor.passed ≤ c.args.index =
    omega (arith, c.loop-passed.invariant.count, c.loop-passed.invariant.few) in
    if_none c.from_residual-in_err-at.result (none_there c.args.outbox.now.records
    c.loop-passed.cursor c.args.index c.loop-passed.invariant.reads c.in_err-at.ensures.none few)

pub returns-clause-there : goal.returns-clause-there
returns-clause-there c =
    let ends = c.loop-passed-test.false in
    let last : c.loop-passed.cursor.passed ≡ c.args.index =
    omega (arith, ends, c.loop-passed.invariant.count, c.loop-passed.invariant.few) in
    shown_there c.args.outbox.now.records _ c.loop-passed.cursor c.args.index c.in_ok-at.at
    c.loop-passed.invariant.reads c.in_ok-at.ensures.some last
