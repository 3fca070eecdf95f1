use Rattle.std.proofs.Common.{◌≡◌, ◌-◌, Some, None, ◌∙◌, refl, arith}
use Rattle.trdp_marshal.specs.Items.{model_of, models_in}
use Rattle.trdp_marshal.specs.Spelling.{form_spelling, dataset_spelling}
use Rattle.trdp_marshal.proofs.MeasureLemmas.{entries_differ, entries_at_place, entries_past}
use Rattle.trdp_marshal.proofs.MeasureLemmas.{entry_alone, entry_listed, dataset_unspelled}
use Rattle.trdp_marshal.proofs.MeasureLemmas.{dataset_missing, dataset_listed}
use Rattle.trdp_marshal.proofs.WriterLemmas.{joined_splits, continues_on, continues_end}
use Rattle.trdp_marshal.proofs.WriterLemmas.{continues_start, appends_same, unspelled, unmeasured}
use Rattle.trdp_marshal.proofs.WriterLemmas.{repeated_splits, repeated_over, nothing_left}
use Rattle.trdp_marshal.proofs.writer.+write.Goals as goal

pub write_repeated-loop-item-init : goal.write_repeated-loop-item-init
write_repeated-loop-item-init t c = continues_start _
    _ c.args.out.now.items (let e : c.args.count - 0 ≡ c.args.count = omega arith in rw e refl)

pub write_repeated-loop-item-preserved : goal.write_repeated-loop-item-preserved
write_repeated-loop-item-preserved t c =
    continues_on _ _ _ _ c.args.out.now.items c.loop-item.out.items c.write_form.new.out.items
    c.loop-item.invariant (repeated_splits (form_spelling (dataset_spelling c.args.registry.now
    c.args.depth) c.args.form) c.args.items.now c.args.count c.loop-item.item-index
    c.item-item.result c.loop-item-test.true c.item-item.is) c.in_ok-write_form.ensures

pub write_repeated-returns : goal.write_repeated-returns
write_repeated-returns t c =
    continues_end _ _ c.args.out.now.items c.loop-item.out.items c.loop-item.invariant
    (repeated_over (form_spelling (dataset_spelling c.args.registry.now c.args.depth)
    c.args.form) c.args.items.now (c.args.count - c.loop-item.item-index) c.loop-item.item-index
    c.loop-item-test.false)

pub write_entries-loop-i-preserved : goal.write_entries-loop-i-preserved
write_entries-loop-i-preserved t c =
    let place = entries_at_place (form_spelling (dataset_spelling c.args.registry.now c.args.depth))
    c.args.elements.now c.args.items.now c.loop-i.i
    _ c.loop-i.count c.count-count.result c.index-items-i.result
    c.loop-i-test.true (omega arith) c.index-items-i.is c.count-count.ensures in
    continues_on _ _ _ _ c.args.out.now.items c.loop-i.out.items c.write_entry.new.out.items
    c.loop-i.invariant (joined_splits _ _ _ place) c.in_ok-write_entry.ensures

pub write_entries-returns : goal.write_entries-returns
write_entries-returns t c =
    continues_end _ _ c.args.out.now.items c.loop-i.out.items
    c.loop-i.invariant (nothing_left _ (entries_past
    (form_spelling (dataset_spelling c.args.registry.now c.args.depth)) c.args.elements.now
    c.args.items.now c.loop-i.count c.loop-i.i c.loop-i-test.false (omega arith)))

pub write_entry-returns-then-element-eq1 : goal.write_entry-returns-then-element-eq1
write_entry-returns-then-element-eq1 t c =
    appends_same c.write_form.result _ _ c.args.out.now.items c.write_form.new.out.items
    (entry_alone (form_spelling (dataset_spelling c.args.registry.now c.args.depth))
    c.form-form.result c.args.element c.args.count (model_of c.args.item.now)
    c.form-form.ensures.value c.if-element-eq1.true) c.write_form.ensures

pub write_entry-returns-in-Some : goal.write_entry-returns-in-Some
write_entry-returns-in-Some t c =
    appends_same c.write_repeated.result _ _ c.args.out.now.items c.write_repeated.new.out.items
    (entry_listed (form_spelling (dataset_spelling c.args.registry.now c.args.depth))
    c.form-form.result c.args.element c.args.count c.item_count-count.result
    (model_of c.args.item.now) (Some (models_in c.in-Some.items.now)) c.form-form.ensures.value
    c.if-element-eq1.false c.item_count-count.ensures c.in-Some.ensures)
    c.write_repeated.ensures

pub write_entry-returns-in-None : goal.write_entry-returns-in-None
write_entry-returns-in-None t c =
    unspelled _ c.args.out.now.items c.args.out.now.items
    (entry_listed (form_spelling (dataset_spelling c.args.registry.now c.args.depth))
    c.form-form.result c.args.element c.args.count
    c.item_count-count.result (model_of c.args.item.now) None c.form-form.ensures.value
    c.if-element-eq1.false c.item_count-count.ensures c.in-None.ensures)

pub write_dataset-returns-then-depth-eq0 : goal.write_dataset-returns-then-depth-eq0
write_dataset-returns-then-depth-eq0 t c =
    unspelled _ c.args.out.now.items c.args.out.now.items (dataset_unspelled c.args.registry.now
    c.args.depth c.args.id (model_of c.args.item.now) c.if-depth-eq0.true)

pub write_dataset-returns-in-None : goal.write_dataset-returns-in-None
write_dataset-returns-in-None t c =
    unspelled _ c.args.out.now.items c.args.out.now.items (dataset_missing c.args.registry.now
    c.args.depth c.args.id (model_of c.args.item.now) c.if-depth-eq0.false c.in-None.ensures.value)

pub write_dataset-returns-in-None-items : goal.write_dataset-returns-in-None-items
write_dataset-returns-in-None-items t c =
    unspelled _ c.args.out.now.items c.args.out.now.items (dataset_listed c.args.registry.now
    c.args.depth c.args.id (model_of c.args.item.now) c.in-Some.elements.now
    None c.if-depth-eq0.false c.in-Some.ensures.value c.in-None-items.ensures)

pub write_dataset-returns-then-elements-items : goal.write_dataset-returns-then-elements-items
write_dataset-returns-then-elements-items t c =
    unspelled _ c.args.out.now.items c.args.out.now.items
    (unmeasured _
    (entries_differ (form_spelling (dataset_spelling c.args.registry.now (c.args.depth - 1)))
    c.in-Some.elements.now 0 c.in-Some-items.items.now c.if-elements-items.true)
    ∙ dataset_listed c.args.registry.now c.args.depth c.args.id (model_of c.args.item.now)
    c.in-Some.elements.now (Some (models_in c.in-Some-items.items.now))
    c.if-depth-eq0.false c.in-Some.ensures.value c.in-Some-items.ensures)

pub write_dataset-returns-else-elements-items : goal.write_dataset-returns-else-elements-items
write_dataset-returns-else-elements-items t c =
    appends_same c.write_entries.result _ _ c.args.out.now.items c.write_entries.new.out.items
    (dataset_listed c.args.registry.now c.args.depth c.args.id (model_of c.args.item.now)
    c.in-Some.elements.now (Some (models_in c.in-Some-items.items.now)) c.if-depth-eq0.false
    c.in-Some.ensures.value c.in-Some-items.ensures) c.write_entries.ensures
