use Rattle.std.proofs.Common.{ℕ, ◌<◌, ◌^◌, ◌∙◌, refl, sym, subst, arith}
use Rattle.trdp_filter.specs.Telegrams.{telegram_model}
use Rattle.trdp_model.specs.Datagrams.{requested}
use Rattle.trdp_store.specs.TableSlots.{slots_of}
use Rattle.trdp_datagrams.proofs.CostLemmas.Acts.{one_taker, all_takers}
use Rattle.trdp_datagrams.proofs.CostLemmas.Telegrams.{asks_unasked}
use Rattle.trdp_store.proofs.StoreLemmas.Slots.{slots_length}
use Rattle.trdp_datagrams.proofs.DatagramLemmas.AskedInTurn.{asks_first, asks_next, asks_within}
use Rattle.trdp_datagrams.proofs.DatagramLemmas.AskedInTurn.{asks_heard}
use Rattle.trdp_datagrams.proofs.DatagramLemmas.AskedInTurn.{asks_row, asks_bytes, asks_on, asks_end}
use Rattle.trdp_datagrams.proofs.DatagramLemmas.AskedInTurn.{few_noted}
use Rattle.trdp_datagrams.proofs.DatagramLemmas.HandedInTurn.{reached_count, reached_parts}
use Rattle.trdp_datagrams.proofs.DatagramLemmas.HandedInTurn.{reached_appends}
use Rattle.trdp_datagrams.proofs.requests.ask_all.Goals as goal

pub loop-listener-init : goal.loop-listener-init
loop-listener-init c = record {
  goes = asks_first (telegram_model c.args.telegram.now) c.args.globals.now c.args.store.now
      c.args.out.now c.args.noted.now c.sound.ensures.sound
      (asks_unasked (telegram_model c.args.telegram.now) c.requires.asks)
      c.requires.noted c.requires.room;
  room_is = refl;
  comparisons = λ b within. omega arith;
  tests = refl;
  look_ups = omega arith;
}

pub ask-requires-clause-slot : goal.ask-requires-clause-slot
ask-requires-clause-slot c =
    rw c.sought.ensures.slot
    (asks_within _ _ _ _ _ (asks_next _ _ _ c.args.noted.now c.loop-listener.listener-index
    c.listener-item.result
    c.loop-listener-test.true c.listener-item.is c.loop-listener.invariant.goes))

pub ask-requires-clause-heard : goal.ask-requires-clause-heard
ask-requires-clause-heard c =
    rw (c.sought.ensures.slot, c.sought.ensures.handle)
    (asks_heard _ _ _ _ _ (asks_next _ _ _ c.args.noted.now c.loop-listener.listener-index
    c.listener-item.result
    c.loop-listener-test.true c.listener-item.is c.loop-listener.invariant.goes))

pub ask-requires-clause-row : goal.ask-requires-clause-row
ask-requires-clause-row c =
    asks_row _ _ _ _ _ (asks_next _ _ _ c.args.noted.now c.loop-listener.listener-index
    c.listener-item.result
    c.loop-listener-test.true c.listener-item.is c.loop-listener.invariant.goes)

pub ask-requires-clause-bytes : goal.ask-requires-clause-bytes
ask-requires-clause-bytes c =
    asks_bytes _ _ _ _ _ (asks_next _ _ _ c.args.noted.now c.loop-listener.listener-index
    c.listener-item.result
    c.loop-listener-test.true c.listener-item.is c.loop-listener.invariant.goes)

pub loop-listener-preserved : goal.loop-listener-preserved
loop-listener-preserved c =
    let next = asks_next _ _ _ c.args.noted.now
    c.loop-listener.listener-index c.listener-item.result
    c.loop-listener-test.true c.listener-item.is c.loop-listener.invariant.goes in
    let becomes = rw c.sought.ensures.slot at c.ask.ensures.becomes in
    record {
      goes = asks_on _ _ _ _ _ _ _ next becomes c.ask.ensures.row_room
          c.ask.ensures.byte_room;
      room_is = c.ask.ensures.room ∙ c.loop-listener.invariant.room_is;
      comparisons = λ b within.
          one_taker c.ask.new.counts.comparisons
          c.loop-listener.counts.comparisons c.loop-listener.counts.comparisons
          c.args.counts.now.comparisons c.loop-listener.listener-index b
          (c.ask.ensures.comparisons b
          (subst (λ (n : ℕ). n < 2 ^ b) (sym c.loop-listener.invariant.room_is) within))
          refl (c.loop-listener.invariant.comparisons b within);
      tests = c.ask.ensures.tests ∙ c.loop-listener.invariant.tests;
      look_ups = omega (arith, c.ask.ensures.look_ups, c.loop-listener.invariant.look_ups);
    }

pub returns-clause-comparisons : goal.returns-clause-comparisons
returns-clause-comparisons c = λ b within.
    all_takers c.loop-listener.counts.comparisons
    c.args.counts.now.comparisons c.loop-listener.listener-index
    _ b (c.loop-listener.invariant.comparisons b within) (omega arith)

pub returns-clause-look_ups : goal.returns-clause-look_ups
returns-clause-look_ups c =
    let few = few_noted (telegram_model c.args.telegram.now) c.args.globals.now c.args.store.now
    c.args.noted.now c.sound.ensures.sound
    (asks_unasked (telegram_model c.args.telegram.now) c.requires.asks) c.requires.noted in
    omega (arith, c.loop-listener.invariant.look_ups, few, slots_length c.args.store.now)

pub returns-clause-count : goal.returns-clause-count
returns-clause-count c =
    let end = asks_end _ _ _ c.args.noted.now c.loop-listener.listener-index
    c.loop-listener-test.false c.loop-listener.invariant.goes in
    reached_count (λ slot. requested slot c.args.globals.now (telegram_model c.args.telegram.now))
    c.args.store.now c.loop-listener.store end.0

pub returns-clause-parts : goal.returns-clause-parts
returns-clause-parts c =
    let end = asks_end _ _ _ c.args.noted.now c.loop-listener.listener-index
    c.loop-listener-test.false c.loop-listener.invariant.goes in
    reached_parts (λ slot. requested slot c.args.globals.now (telegram_model c.args.telegram.now))
    (slots_of c.args.store.now) (slots_of c.loop-listener.store) c.args.out.now.records
    c.loop-listener.out.records end.0 end.1

pub returns-clause-appends : goal.returns-clause-appends
returns-clause-appends c =
    let end = asks_end _ _ _ c.args.noted.now c.loop-listener.listener-index
    c.loop-listener-test.false c.loop-listener.invariant.goes in
    reached_appends (λ slot. requested slot c.args.globals.now (telegram_model c.args.telegram.now))
    (slots_of c.args.store.now) c.args.out.now.records c.loop-listener.out.records end.1

pub returns-clause-room : goal.returns-clause-room
returns-clause-room c = c.loop-listener.invariant.room_is
