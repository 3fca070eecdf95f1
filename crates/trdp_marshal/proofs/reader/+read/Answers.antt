use Rattle.std.proofs.Common.{sym, ◌∙◌}
use Rattle.trdp_marshal.specs.Reading.{form_at, dataset_at}
use Rattle.trdp_marshal.proofs.ReaderLemmas.{gives_fault, gives_same, repeated_builds}
use Rattle.trdp_marshal.proofs.ReaderLemmas.{repeated_fails}
use Rattle.trdp_marshal.proofs.ReaderLemmas.{repeated_built, entries_build, entries_fail}
use Rattle.trdp_marshal.proofs.ReaderLemmas.{entries_built}
use Rattle.trdp_marshal.proofs.ReaderLemmas.{entry_single, entry_several, dataset_of_entries}
use Rattle.trdp_marshal.proofs.ReaderLemmas.{dataset_of_none, dataset_too_deep, listed, unlisted}
use Rattle.trdp_marshal.proofs.reader.+read.Goals as goal

pub read_repeated-returns-in_err-item : goal.read_repeated-returns-in_err-item
read_repeated-returns-in_err-item t c =
    gives_fault _ c.from_residual.result c.in_err-item.field-0.0 _ c.from_residual.ensures.1
    (repeated_fails (form_at (dataset_at c.args.registry.now c.args.depth) c.args.form)
    c.args.count c.loop.counter c.loop.rest.now c.loop.items.items
    _ c.in_err-item.field-0.0 c.loop-test.true c.loop.invariant c.in_err-item.ensures)

pub read_repeated-loop-preserved : goal.read_repeated-loop-preserved
read_repeated-loop-preserved t c =
    repeated_builds (form_at (dataset_at c.args.registry.now c.args.depth) c.args.form) c.args.count
    c.loop.counter c.loop.rest.now c.in_ok-item.item c.in_ok-item.next.now c.loop.items.items
    c.push.new.self.items c.loop-test.true c.in_ok-item.ensures c.in_ok-push.ensures.items
    ∙ c.loop.invariant

pub read_repeated-returns : goal.read_repeated-returns
read_repeated-returns t c = sym c.loop.invariant
    ∙ repeated_built (form_at (dataset_at c.args.registry.now c.args.depth) c.args.form)
    c.args.count c.loop.counter c.loop.rest.now c.loop.items.items c.loop-test.false

pub read_entries-loop-element-preserved : goal.read_entries-loop-element-preserved
read_entries-loop-element-preserved t c =
    entries_build (form_at (dataset_at c.args.registry.now c.args.depth))
    c.args.elements.now c.loop-element.element-index _ c.loop-element.count
    c.loop-element.rest.now c.in_ok-item.item c.count-count.result c.in_ok-item.next.now
    c.loop-element.items.items c.push.new.self.items c.loop-element-test.true
    c.in_ok-item.ensures c.count-count.ensures c.in_ok-push.ensures.items ∙ c.loop-element.invariant

pub read_entries-returns-in_err-item : goal.read_entries-returns-in_err-item
read_entries-returns-in_err-item t c =
    gives_fault _ c.from_residual.result c.in_err-item.field-0.0 _ c.from_residual.ensures.1
    (entries_fail (form_at (dataset_at c.args.registry.now c.args.depth))
    c.args.elements.now c.loop-element.element-index _ c.loop-element.count
    c.loop-element.rest.now c.loop-element.items.items _ c.in_err-item.field-0.0
    c.loop-element-test.true c.loop-element.invariant c.in_err-item.ensures)

pub read_entries-returns : goal.read_entries-returns
read_entries-returns t c = sym c.loop-element.invariant
    ∙ entries_built (form_at (dataset_at c.args.registry.now c.args.depth))
    c.args.elements.now c.loop-element.element-index c.loop-element.count
    c.loop-element.rest.now c.loop-element.items.items c.loop-element-test.false

pub read_dataset-returns-then-depth-eq0 : goal.read_dataset-returns-then-depth-eq0
read_dataset-returns-then-depth-eq0 t c =
    dataset_too_deep c.args.registry.now c.args.depth c.args.id c.args.bytes.now c.if-depth-eq0.true

pub read_dataset-returns-in-None : goal.read_dataset-returns-in-None
read_dataset-returns-in-None t c = dataset_of_none c.args.registry.now
    c.args.depth c.args.id c.args.bytes.now c.if-depth-eq0.false (sym c.in-None.ensures.value)

pub read_dataset-returns-in_ok-items-in-Some : goal.read_dataset-returns-in_ok-items-in-Some
read_dataset-returns-in_ok-items-in-Some t c =
    rw c.list.ensures (listed _ c.in_ok-items-in-Some.items.items c.in_ok-items-in-Some.rest.now _
    c.in_ok-items-in-Some.ensures (dataset_of_entries c.args.registry.now c.args.depth c.args.id
    c.args.bytes.now c.in-Some.elements.now c.if-depth-eq0.false (sym c.in-Some.ensures.value)))

pub read_dataset-returns-in_err-items-in-Some : goal.read_dataset-returns-in_err-items-in-Some
read_dataset-returns-in_err-items-in-Some t c =
    gives_fault _ c.from_residual.result c.in_err-items-in-Some.field-0.0
    _ c.from_residual.ensures.1
    (unlisted c.in_err-items-in-Some.field-0.0 _ _ c.in_err-items-in-Some.ensures
    (dataset_of_entries c.args.registry.now c.args.depth c.args.id
    c.args.bytes.now c.in-Some.elements.now c.if-depth-eq0.false (sym c.in-Some.ensures.value)))

pub read_entry-returns-then-element-eq1 : goal.read_entry-returns-then-element-eq1
read_entry-returns-then-element-eq1 t c =
    gives_same _
    c.read_form.result _ _ (entry_single (form_at (dataset_at c.args.registry.now c.args.depth))
    c.form-form.result c.args.element c.args.count
    c.args.bytes.now c.form-form.ensures.value c.if-element-eq1.true) c.read_form.ensures

pub read_entry-returns-in_err-items : goal.read_entry-returns-in_err-items
read_entry-returns-in_err-items t c =
    gives_fault _ c.from_residual.result c.in_err-items.field-0.0 _ c.from_residual.ensures.1
    (unlisted c.in_err-items.field-0.0 _ _ c.in_err-items.ensures
    (entry_several (form_at (dataset_at c.args.registry.now c.args.depth))
    c.form-form.result c.args.element c.args.count c.item_count-count.result c.args.bytes.now
    c.form-form.ensures.value c.if-element-eq1.false c.item_count-count.ensures))

pub read_entry-returns : goal.read_entry-returns
read_entry-returns t c =
    rw c.list.ensures (listed _ c.in_ok-items.items.items c.in_ok-items.rest.now _
    c.in_ok-items.ensures (entry_several (form_at (dataset_at c.args.registry.now c.args.depth))
    c.form-form.result c.args.element c.args.count c.item_count-count.result c.args.bytes.now
    c.form-form.ensures.value c.if-element-eq1.false c.item_count-count.ensures))
