use Rattle.std.proofs.Common.{ℕ, List, Option, Some, None, ap, ◌∙◌, refl, arith}
use Rattle.trdp_marshal.specs.Items.{model_of, models_in}
use Rattle.trdp_marshal.specs.Spelling.{form_spelling, dataset_spelling}
use Rattle.trdp_marshal.specs.Lengths.{measured}
use Rattle.trdp_marshal.proofs.MeasureLemmas.{repeated_differ, entries_differ, repeated_at_place}
use Rattle.trdp_marshal.proofs.MeasureLemmas.{entries_at_place, turned, halted, ended}
use Rattle.trdp_marshal.proofs.MeasureLemmas.{repeated_past}
use Rattle.trdp_marshal.proofs.MeasureLemmas.{entries_past, entry_alone, entry_listed}
use Rattle.trdp_marshal.proofs.MeasureLemmas.{dataset_unspelled, dataset_missing, dataset_listed}
use Rattle.trdp_marshal.proofs.measure.+measure.Goals as goal

pub measure_repeated-returns-then-items-count : goal.measure_repeated-returns-then-items-count
measure_repeated-returns-then-items-count t c =
    repeated_differ (form_spelling (dataset_spelling c.args.registry.now c.args.depth) c.args.form)
    c.args.count c.args.items.now c.if-items-count.true

pub measure_repeated-loop-item-preserved : goal.measure_repeated-loop-item-preserved
measure_repeated-loop-item-preserved t c =
    let place = repeated_at_place (form_spelling (dataset_spelling c.args.registry.now c.args.depth)
    c.args.form) c.args.items.now c.args.count c.loop-item.item-index
    c.item-item.result c.if-items-count.false c.loop-item-test.true c.item-item.is in (
      turned c.loop-item.total c.in_ok-len.len c.added-total.result _ _ _ place c.in_ok-len.ensures
          c.added-total.ensures ∙ c.loop-item.invariant.0,
      omega (arith, c.added-total.ensures),
    )

pub measure_repeated-returns-in_err-len : goal.measure_repeated-returns-in_err-len
measure_repeated-returns-in_err-len t c =
    let place = repeated_at_place (form_spelling (dataset_spelling c.args.registry.now c.args.depth)
    c.args.form) c.args.items.now c.args.count c.loop-item.item-index
    c.item-item.result c.if-items-count.false c.loop-item-test.true c.item-item.is in
    c.from_residual.ensures ∙ halted c.loop-item.total _ _ _ place c.in_err-len.ensures
    ∙ c.loop-item.invariant.0

pub measure_repeated-returns : goal.measure_repeated-returns
measure_repeated-returns t c =
    ended c.loop-item.total
    _ (repeated_past (form_spelling (dataset_spelling c.args.registry.now c.args.depth)
    c.args.form) c.args.items.now c.args.count c.loop-item.item-index c.if-items-count.false
    c.loop-item-test.false) c.loop-item.invariant.1 ∙ c.loop-item.invariant.0

pub measure_entries-returns-then-elements-items : goal.measure_entries-returns-then-elements-items
measure_entries-returns-then-elements-items t c =
    entries_differ (form_spelling (dataset_spelling c.args.registry.now c.args.depth))
    c.args.elements.now 0 c.args.items.now c.if-elements-items.true

pub measure_entries-loop-i-preserved : goal.measure_entries-loop-i-preserved
measure_entries-loop-i-preserved t c =
    let place = entries_at_place (form_spelling (dataset_spelling c.args.registry.now c.args.depth))
    c.args.elements.now c.args.items.now c.loop-i.i
    _ c.loop-i.count c.count-count.result c.index-items-i.result
    c.loop-i-test.true (omega arith) c.index-items-i.is c.count-count.ensures in (
      turned c.loop-i.total c.in_ok-len.len c.added-total.result _ _ _ place c.in_ok-len.ensures
          c.added-total.ensures ∙ c.loop-i.invariant.0,
      omega (arith, c.added-total.ensures),
    )

pub measure_entries-returns-in_err-len : goal.measure_entries-returns-in_err-len
measure_entries-returns-in_err-len t c =
    let place = entries_at_place (form_spelling (dataset_spelling c.args.registry.now c.args.depth))
    c.args.elements.now c.args.items.now c.loop-i.i _ c.loop-i.count
    _ c.index-items-i.result c.loop-i-test.true (omega arith) c.index-items-i.is refl in
    c.from_residual.ensures ∙ halted c.loop-i.total _ _ _ place c.in_err-len.ensures
    ∙ c.loop-i.invariant.0

pub measure_entries-returns : goal.measure_entries-returns
measure_entries-returns t c =
    ended c.loop-i.total
    _ (entries_past (form_spelling (dataset_spelling c.args.registry.now c.args.depth))
    c.args.elements.now c.args.items.now c.loop-i.count
    c.loop-i.i c.loop-i-test.false (omega arith)) c.loop-i.invariant.1 ∙ c.loop-i.invariant.0

pub measure_entry-returns-then-element-eq1 : goal.measure_entry-returns-then-element-eq1
measure_entry-returns-then-element-eq1 t c =
    c.measure_form.ensures ∙ ap (λ (o : Option (List ℕ)). measured o)
    (entry_alone (form_spelling (dataset_spelling c.args.registry.now c.args.depth))
    c.form-form.result c.args.element c.args.count
    (model_of c.args.item.now) c.form-form.ensures.value c.if-element-eq1.true)

pub measure_entry-returns-in-Some : goal.measure_entry-returns-in-Some
measure_entry-returns-in-Some t c =
    c.measure_repeated.ensures ∙ ap (λ (o : Option (List ℕ)). measured o)
    (entry_listed (form_spelling (dataset_spelling c.args.registry.now c.args.depth))
    c.form-form.result c.args.element c.args.count c.item_count-count.result
    (model_of c.args.item.now) (Some (models_in c.in-Some.items.now)) c.form-form.ensures.value
    c.if-element-eq1.false c.item_count-count.ensures c.in-Some.ensures)

pub measure_entry-returns-in-None : goal.measure_entry-returns-in-None
measure_entry-returns-in-None t c =
    ap (λ (o : Option (List ℕ)). measured o)
    (entry_listed (form_spelling (dataset_spelling c.args.registry.now c.args.depth))
    c.form-form.result c.args.element c.args.count
    c.item_count-count.result (model_of c.args.item.now) None c.form-form.ensures.value
    c.if-element-eq1.false c.item_count-count.ensures c.in-None.ensures)

pub measure_dataset-returns-then-depth-eq0 : goal.measure_dataset-returns-then-depth-eq0
measure_dataset-returns-then-depth-eq0 t c =
    ap (λ (o : Option (List ℕ)). measured o) (dataset_unspelled c.args.registry.now
    c.args.depth c.args.id (model_of c.args.item.now) c.if-depth-eq0.true)

pub measure_dataset-returns-in-None : goal.measure_dataset-returns-in-None
measure_dataset-returns-in-None t c =
    ap (λ (o : Option (List ℕ)). measured o) (dataset_missing c.args.registry.now
    c.args.depth c.args.id (model_of c.args.item.now) c.if-depth-eq0.false c.in-None.ensures.value)

pub measure_dataset-returns-in-Some-items : goal.measure_dataset-returns-in-Some-items
measure_dataset-returns-in-Some-items t c =
    c.measure_entries.ensures ∙ ap (λ (o : Option (List ℕ)). measured o)
    (dataset_listed c.args.registry.now c.args.depth c.args.id (model_of c.args.item.now)
    c.in-Some.elements.now (Some (models_in c.in-Some-items.items.now))
    c.if-depth-eq0.false c.in-Some.ensures.value c.in-Some-items.ensures)

pub measure_dataset-returns-in-None-items : goal.measure_dataset-returns-in-None-items
measure_dataset-returns-in-None-items t c =
    ap (λ (o : Option (List ℕ)). measured o) (dataset_listed c.args.registry.now
    c.args.depth c.args.id (model_of c.args.item.now) c.in-Some.elements.now
    None c.if-depth-eq0.false c.in-Some.ensures.value c.in-None-items.ensures)
