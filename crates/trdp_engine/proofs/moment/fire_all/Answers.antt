use Rattle.std.proofs.Common.{◌∙◌, arith}
use Rattle.trdp_engine.proofs.MomentLemmas.AllFire.{moving_first, nexts, next_is_due}
use Rattle.trdp_engine.proofs.MomentLemmas.AllFire.{moving_may, moves_on, moment_ends}
use Rattle.trdp_store.specs.Acting.{slot_at}
use Rattle.trdp_model.specs.Moments.{firing_act}
use Rattle.trdp_table.specs.Tables.{room_of}
use Rattle.trdp_datagrams.proofs.DatagramLemmas.Deeds.{deed_acts}
use Rattle.trdp_datagrams.proofs.CostLemmas.Acts.{compared, few_look_ups}
use Rattle.trdp_datagrams.proofs.CostLemmas.Acts.{room_stays}
use Rattle.trdp_engine.proofs.CostLemmas.Moments.{counting_first, counting_on}
use Rattle.trdp_engine.proofs.CostLemmas.Moments.{counted_comparisons, counted_look_ups}
use Rattle.trdp_engine.proofs.moment.fire_all.Goals as goal

pub loop-next-init : goal.loop-next-init
loop-next-init c = record {
  moving = moving_first c.args.globals.now c.args.store.now
      c.args.out.now c.sound.ensures.sound c.requires.sound c.requires.room;
  counting =
      counting_first c.args.globals.now c.args.store.now c.args.counts.now c.compared.new.self
      c.compared.ensures.comparisons c.compared.ensures.tests c.compared.ensures.look_ups;
}

pub act-requires-clause-may : goal.act-requires-clause-may
act-requires-clause-may c =
    let next = nexts c.args.globals.now c.args.store.now c.loop-next.store c.args.out.now.records
    c.loop-next.out c.in-Some.next c.loop-next.invariant.moving c.in-Some.ensures.next in
    let may = moving_may c.args.globals.now c.args.store.now c.loop-next.store
    c.args.out.now.records c.loop-next.out c.in-Some.next c.loop-next.invariant.moving next in
    let due = next_is_due c.args.globals.now.now
    (slot_at c.in-Some.next.slot c.loop-next.store).objects c.in-Some.next.handle next.1 in
    let is_due = rw may.found at due in
    rw c.in-Some.ensures.kept (rw may.found (is_due, c.requires.now, may.room))

pub loop-next-smaller : goal.loop-next-smaller
loop-next-smaller c =
    let next = nexts c.args.globals.now c.args.store.now c.loop-next.store c.args.out.now.records
    c.loop-next.out c.in-Some.next c.loop-next.invariant.moving c.in-Some.ensures.next in
    let may = moving_may c.args.globals.now c.args.store.now c.loop-next.store
    c.args.out.now.records c.loop-next.out c.in-Some.next c.loop-next.invariant.moving next in
    let acts = deed_acts c.in-Some.next.slot c.in-Some.next.handle (firing_act c.args.globals.now)
    c.loop-next.store c.act.new.self c.loop-next.out c.act.new.out c.act.result may
    (rw c.in-Some.ensures.kept at c.act.ensures.found)
    (rw c.in-Some.ensures.kept at c.act.ensures.done)
    (rw c.in-Some.ensures.kept at c.act.ensures.spends) in
    (moves_on c.args.globals.now c.args.store.now c.loop-next.store
    c.act.new.self c.args.out.now.records c.loop-next.out c.act.new.out c.in-Some.next
    c.loop-next.invariant.moving next acts).fewer

pub loop-next-preserved : goal.loop-next-preserved
loop-next-preserved c =
    let next = nexts c.args.globals.now c.args.store.now c.loop-next.store c.args.out.now.records
    c.loop-next.out c.in-Some.next c.loop-next.invariant.moving c.in-Some.ensures.next in
    let may = moving_may c.args.globals.now c.args.store.now c.loop-next.store
    c.args.out.now.records c.loop-next.out c.in-Some.next c.loop-next.invariant.moving next in
    let acts = deed_acts c.in-Some.next.slot c.in-Some.next.handle (firing_act c.args.globals.now)
    c.loop-next.store c.act.new.self c.loop-next.out c.act.new.out c.act.result may
    (rw c.in-Some.ensures.kept at c.act.ensures.found)
    (rw c.in-Some.ensures.kept at c.act.ensures.done)
    (rw c.in-Some.ensures.kept at c.act.ensures.spends) in
    let moves = moves_on c.args.globals.now c.args.store.now
    c.loop-next.store c.act.new.self c.args.out.now.records
    c.loop-next.out c.act.new.out c.in-Some.next c.loop-next.invariant.moving next acts in
    let comparisons = rw c.in-Some.ensures.kept at c.act.ensures.comparisons in
    record {
      moving = moves.moving;
      counting =
          counting_on c.args.globals.now c.args.store.now
          c.loop-next.store c.act.new.self c.args.counts.now
          c.loop-next.counts c.compared-in-Some.new.self c.loop-next.invariant.counting
          (room_stays (firing_act c.args.globals.now) c.in-Some.next.slot c.in-Some.next.handle
          c.loop-next.store c.act.new.self c.loop-next.out c.act.new.out next.0 acts)
          moves.fewer
          (λ b lt. omega (
            arith,
            c.count_act.ensures.comparisons,
            compared c.act.result (room_of c.loop-next.store) b comparisons lt,
            c.compared-in-Some.ensures.comparisons,
          ))
          (c.compared-in-Some.ensures.tests ∙ c.count_act.ensures.tests)
          (omega (
            arith,
            c.compared-in-Some.ensures.look_ups,
            c.count_act.ensures.look_ups,
            few_look_ups c.act.result,
          ));
    }

pub returns-clause-comparisons : goal.returns-clause-comparisons
returns-clause-comparisons c =
    counted_comparisons c.args.globals.now c.args.store.now
    c.loop-next.store c.args.counts.now c.loop-next.counts c.loop-next.invariant.counting

pub returns-clause-look_ups : goal.returns-clause-look_ups
returns-clause-look_ups c =
    counted_look_ups c.args.globals.now c.args.store.now
    c.loop-next.store c.args.counts.now c.loop-next.counts c.loop-next.invariant.counting

pub returns-clause-parts : goal.returns-clause-parts
returns-clause-parts c =
    rw c.in_default.ensures.kept
    (moment_ends c.args.globals.now c.args.store.now c.loop-next.store c.args.out.now.records
    c.loop-next.out c.loop-next.invariant.moving c.in_default.ensures.next)

pub returns-clause-room : goal.returns-clause-room
returns-clause-room c = rw c.in_default.ensures.kept c.loop-next.invariant.counting.room_is
