use Rattle.std.proofs.Common.{◌≡◌, List, [], ◌∷◌, ◌++◌, ◌∙◌, ap, refl, rules, subst, sym}
use Rattle.trdp_model.specs.Records.{RecordModel, record_model}
use Rattle.trdp_outbox.specs.SlotOrder.{by_slot, slots_from}
use Rattle.trdp_outbox.proofs.SlotOrderLemmas.Walk.{walked_all, walked_one}
use Rattle.trdp_daemon.specs.Tellings.{Tells}
use Rattle.trdp_daemon.proofs.TellingLemmas.{tells_more, tells_none}
use Rattle.trdp_daemon.proofs.telling.tell_records.Goals as goal

by_slot_none : by_slot [] ≡ []
unfolding by_slot slots_from
by_slot_none = refl

pub returns-then-is_empty : goal.returns-then-is_empty
returns-then-is_empty g c =
    let none = c.is_empty.ensures.0 c.if-is_empty.true in
    subst (λ (rs : List RecordModel). Tells g.W.Wire.takings g.W.Wire.gives
    c.args.contacts.now c.args.link.now c.args.link.now rs)
    (sym (ap by_slot none ∙ by_slot_none)) (tells_none _ _ c.args.contacts.now c.args.link.now)

pub loop-record-init : goal.loop-record-init
loop-record-init g c = record {
  can = search rules;
  ends = search rules;
  came = (
    [],
    tells_none _ _ c.args.contacts.now c.args.link.now,
    sym (c.into_iter-record-iterator.ensures.into_iter_gives ∙ c.by_slot-record-items.ensures),
  );
}

pub loop-record-preserved : goal.loop-record-preserved
loop-record-preserved g c =
    let (done, told, left) = c.loop-record.invariant.came in
    let r = record_model c.in-Some.record in
    let here = left ∙ ap (λ l. done ++ l) c.in-Some.ensures.steps in
    record {
      can = search rules;
      ends = search rules;
      came = (done ++ r ∷ [], tells_more told c.tell_record.ensures, walked_one _ done _ r here);
    }

pub returns : goal.returns
returns g c =
    let (done, told, left) = c.loop-record.invariant.came in
    subst (λ (rs : List RecordModel). Tells g.W.Wire.takings g.W.Wire.gives
    c.args.contacts.now c.args.link.now c.loop-record.link rs)
    (sym (walked_all _ done _ left c.in-None.ensures.steps.0)) told
