use Rattle.std.proofs.Common.{ℕ, ◌<◌, ◌^◌, ◌∙◌, refl, sym, subst, arith}
use Rattle.trdp_model.specs.Datagrams.{handed, taking_act}
use Rattle.trdp_table.specs.Tables.{room_of}
use Rattle.trdp_datagrams.proofs.DatagramLemmas.Deeds.{deed_acts}
use Rattle.trdp_datagrams.proofs.CostLemmas.Acts.{room_stays, one_taker, all_takers}
use Rattle.trdp_datagrams.proofs.CostLemmas.Acts.{compared_still, few_look_ups}
use Rattle.trdp_filter.specs.Telegrams.{telegram_model}
use Rattle.trdp_model.specs.Configs.{setup_of}
use Rattle.trdp_store.specs.TableSlots.{slots_of}
use Rattle.trdp_datagrams.proofs.DatagramLemmas.HandedInTurn.{goes_first, goes_next, goes_within}
use Rattle.trdp_datagrams.proofs.DatagramLemmas.HandedInTurn.{goes_may}
use Rattle.trdp_datagrams.proofs.DatagramLemmas.HandedInTurn.{goes_addressed, goes_on, goes_end}
use Rattle.trdp_datagrams.proofs.DatagramLemmas.HandedInTurn.{reached_count, reached_parts}
use Rattle.trdp_datagrams.proofs.DatagramLemmas.HandedInTurn.{reached_appends}
use Rattle.trdp_datagrams.proofs.handing.take_all.Goals as goal

pub loop-addressee-init : goal.loop-addressee-init
loop-addressee-init c = record {
  goes = goes_first (setup_of c.args.setting.now.config.now)
      (telegram_model c.args.telegram.now) c.args.setting.now.globals.now c.args.store.now
      c.args.out.now c.args.noted.now c.sound.ensures.sound c.requires.noted c.requires.room;
  room_is = refl;
  comparisons = λ b within. omega arith;
  tests = omega arith;
  look_ups = omega arith;
}

pub act-requires-clause-slot : goal.act-requires-clause-slot
act-requires-clause-slot c =
    rw c.sought.ensures.slot
    (goes_within _ _ _ _ _ (goes_next _ _ _ c.args.noted.now c.loop-addressee.addressee-index
    c.addressee-item.result
    c.loop-addressee-test.true c.addressee-item.is c.loop-addressee.invariant.goes))

pub act-requires-clause-may : goal.act-requires-clause-may
act-requires-clause-may c =
    let next = goes_next _ _ _ c.args.noted.now c.loop-addressee.addressee-index
    c.addressee-item.result
    c.loop-addressee-test.true c.addressee-item.is c.loop-addressee.invariant.goes in
    let may = goes_may _ _ _ _ _ next in
    let addressed = goes_addressed _ _ _ _ _ next in
    let is_for = rw may.found at addressed in
    rw (c.sought.ensures.slot, c.sought.ensures.handle)
    (rw may.found (c.requires.now, c.requires.limit, is_for, may.room))

pub loop-addressee-preserved : goal.loop-addressee-preserved
loop-addressee-preserved c =
    let next = goes_next _ _ _ c.args.noted.now
    c.loop-addressee.addressee-index c.addressee-item.result
    c.loop-addressee-test.true c.addressee-item.is c.loop-addressee.invariant.goes in
    let lt = goes_within _ _ _ _ _ next in
    let acts = deed_acts c.addressee-item.result.slot c.addressee-item.result.handle
    (taking_act (setup_of c.args.setting.now.config.now)
    (telegram_model c.args.telegram.now) c.args.setting.now.globals.now) c.loop-addressee.store
    c.act.new.self c.loop-addressee.out c.act.new.out c.act.result (goes_may _ _ _ _ _ next)
    (rw (c.sought.ensures.slot, c.sought.ensures.handle) at c.act.ensures.found)
    (rw (c.sought.ensures.slot, c.sought.ensures.handle) at c.act.ensures.done)
    (rw (c.sought.ensures.slot, c.sought.ensures.handle) at c.act.ensures.spends) in
    record {
      goes = goes_on _ _ _ _ _ _ _ next acts;
      room_is = room_stays (taking_act (setup_of c.args.setting.now.config.now)
          (telegram_model c.args.telegram.now) c.args.setting.now.globals.now) _ _
          c.loop-addressee.store c.act.new.self c.loop-addressee.out c.act.new.out lt
          acts
          ∙ c.loop-addressee.invariant.room_is;
      comparisons = λ b within.
          one_taker c.count_act.new.counts.comparisons
          c.tested.new.self.comparisons c.loop-addressee.counts.comparisons
          c.args.counts.now.comparisons c.loop-addressee.addressee-index b
          (omega (
            arith,
            c.count_act.ensures.comparisons,
            compared_still c.act.result (room_of c.loop-addressee.store) b c.act.ensures.still
                (subst (λ (n : ℕ). n < 2 ^ b) (sym c.loop-addressee.invariant.room_is) within),
          ))
          c.tested.ensures.comparisons
          (c.loop-addressee.invariant.comparisons b within);
      tests = omega (
        arith,
        c.count_act.ensures.tests,
        c.tested.ensures.tests,
        c.loop-addressee.invariant.tests,
      );
      look_ups = omega (
        arith,
        c.count_act.ensures.look_ups,
        few_look_ups c.act.result,
        c.tested.ensures.look_ups,
        c.loop-addressee.invariant.look_ups,
      );
    }

pub returns-clause-comparisons : goal.returns-clause-comparisons
returns-clause-comparisons c = λ b within.
    all_takers c.loop-addressee.counts.comparisons
    c.args.counts.now.comparisons c.loop-addressee.addressee-index
    _ b (c.loop-addressee.invariant.comparisons b within) (omega arith)

pub returns-clause-look_ups : goal.returns-clause-look_ups
returns-clause-look_ups c = omega (arith, c.loop-addressee.invariant.look_ups)

pub returns-clause-tests : goal.returns-clause-tests
returns-clause-tests c = omega (arith, c.loop-addressee.invariant.tests)

pub returns-clause-count : goal.returns-clause-count
returns-clause-count c =
    let end = goes_end _ _ _ c.args.noted.now c.loop-addressee.addressee-index
    c.loop-addressee-test.false c.loop-addressee.invariant.goes in
    reached_count (λ slot. handed (setup_of c.args.setting.now.config.now) slot
    c.args.setting.now.globals.now (telegram_model c.args.telegram.now)) c.args.store.now
    c.loop-addressee.store end.0

pub returns-clause-parts : goal.returns-clause-parts
returns-clause-parts c =
    let end = goes_end _ _ _ c.args.noted.now c.loop-addressee.addressee-index
    c.loop-addressee-test.false c.loop-addressee.invariant.goes in
    reached_parts (λ slot. handed (setup_of c.args.setting.now.config.now) slot
    c.args.setting.now.globals.now (telegram_model c.args.telegram.now)) (slots_of c.args.store.now)
    (slots_of c.loop-addressee.store) c.args.out.now.records c.loop-addressee.out.records
    end.0 end.1

pub returns-clause-appends : goal.returns-clause-appends
returns-clause-appends c =
    let end = goes_end _ _ _ c.args.noted.now c.loop-addressee.addressee-index
    c.loop-addressee-test.false c.loop-addressee.invariant.goes in
    reached_appends (λ slot. handed (setup_of c.args.setting.now.config.now) slot
    c.args.setting.now.globals.now (telegram_model c.args.telegram.now)) (slots_of c.args.store.now)
    c.args.out.now.records c.loop-addressee.out.records end.1

pub returns-clause-room : goal.returns-clause-room
returns-clause-room c = c.loop-addressee.invariant.room_is
