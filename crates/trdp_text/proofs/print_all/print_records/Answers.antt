use Rattle.std.proofs.Common.{[], ◌∷◌, ◌++◌, ◌∙◌, ap, append-nil, rules, sym}
use Rattle.std.specs.List.{flat_map}
use Rattle.trdp_model.specs.Records.{record_model}
use Rattle.trdp_outbox.proofs.SlotOrderLemmas.Walk.{walked_all, walked_one}
use Rattle.trdp_text.specs.RecordText.{text_of_record}
use Rattle.trdp_text.proofs.TextLemmas.SomeText.{one_told, some_told}
use Rattle.trdp_text.proofs.print_all.print_records.Goals as goal

pub loop-record-init : goal.loop-record-init
loop-record-init c = record {
  can = search rules;
  ends = search rules;
  came = (
    [],
    sym (append-nil c.args.text.now.items),
    sym (c.into_iter-record-iterator.ensures.into_iter_gives ∙ c.by_slot-record-items.ensures),
  );
}

pub loop-record-preserved : goal.loop-record-preserved
loop-record-preserved c =
    let (done, told, left) = c.loop-record.invariant.came in
    let r = record_model c.in-Some.record in
    let here = left ∙ ap (λ l. done ++ l) c.in-Some.ensures.steps in
    record {
      can = search rules;
      ends = search rules;
      came = (
        done ++ r ∷ [],
        one_told _ _ _ done r told c.in_default.ensures.ok,
        walked_one _ done _ r here,
      );
    }

pub returns-in-Err-clause-some : goal.returns-in-Err-clause-some
returns-in-Err-clause-some c =
    let (done, told, left) = c.loop-record.invariant.came in
    some_told _ done _ (record_model c.in-Some.record)
    (left ∙ ap (λ l. done ++ l) c.in-Some.ensures.steps)

pub returns-clause-ok : goal.returns-clause-ok
returns-clause-ok c =
    let (done, told, left) = c.loop-record.invariant.came in
    told ∙ ap (λ rs. c.args.text.now.items ++ flat_map text_of_record rs)
    (sym (walked_all _ done _ left c.in-None.ensures.steps.0))
