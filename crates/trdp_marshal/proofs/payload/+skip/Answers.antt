use Rattle.std.proofs.Common.{ℕ, Some, sym, ap, ◌∙◌, arith}
use Rattle.std.specs.Prelude.{option_map}
use Rattle.trdp_marshal.specs.Reading.{form_at, dataset_at}
use Rattle.trdp_dataset.specs.Depths.{is_within}
use Rattle.trdp_dataset.specs.Datasets.{passes}
use Rattle.trdp_marshal.proofs.SkipLemmas.{repeated_turn, repeated_halt, repeated_done}
use Rattle.trdp_marshal.proofs.SkipLemmas.{entries_counted, entries_turn, entries_halt}
use Rattle.trdp_marshal.proofs.SkipLemmas.{entries_done, entry_skipped, pass_at, counts_at}
use Rattle.trdp_marshal.proofs.SkipLemmas.{dataset_skipped, within_some, within_known}
use Rattle.trdp_marshal.proofs.SkipLemmas.{within_below, skipped_none, nested_repeated, some_seen}
use Rattle.trdp_marshal.proofs.FixedLemmas.{basic_size, basic_repeated}
use Rattle.trdp_marshal.proofs.FixedLemmas.{repeated_skips, dataset_skipped_whole}
use Rattle.trdp_marshal.proofs.payload.+skip.Goals as goal
use Rattle.trdp_marshal.proofs.payload.+skip.Goals.{skip_elements-then-is_counted+in_ok-number}
use Rattle.trdp_marshal.proofs.payload.+skip.Goals.{skip_elements-else-is_counted+in_ok-rest}

pub skip_values-returns-in-Unsigned : goal.skip_values-returns-in-Unsigned
skip_values-returns-in-Unsigned t c =
    c.skip_fixed.ensures
    ∙ sym (basic_repeated (dataset_at c.args.registry.now c.args.depth) c.args.form c.len.result
    (ap basic_size c.in-Unsigned.is ∙ ap (λ (n : ℕ). Some n) (sym c.len.ensures.value))
    c.args.count c.args.bytes.now)

pub skip_values-returns-in-Signed : goal.skip_values-returns-in-Signed
skip_values-returns-in-Signed t c =
    c.skip_fixed-in-Signed.ensures ∙ sym (basic_repeated
    (dataset_at c.args.registry.now c.args.depth) c.args.form c.len-in-Signed.result
    (ap basic_size c.in-Signed.is ∙ ap (λ (n : ℕ). Some n) (sym c.len-in-Signed.ensures.value))
    c.args.count c.args.bytes.now)

pub skip_values-returns-in-Time48 : goal.skip_values-returns-in-Time48
skip_values-returns-in-Time48 t c =
    c.skip_fixed-in-Time48.ensures
    ∙ sym (basic_repeated (dataset_at c.args.registry.now c.args.depth) c.args.form 6
    (ap basic_size c.in-Time48.is) c.args.count c.args.bytes.now)

pub skip_values-returns-in-Time64 : goal.skip_values-returns-in-Time64
skip_values-returns-in-Time64 t c =
    c.skip_fixed-in-Time64.ensures
    ∙ sym (basic_repeated (dataset_at c.args.registry.now c.args.depth) c.args.form 8
    (ap basic_size c.in-Time64.is) c.args.count c.args.bytes.now)

pub skip_values-returns-in-Nested : goal.skip_values-returns-in-Nested
skip_values-returns-in-Nested t c =
    c.skip_datasets.ensures ∙ nested_repeated (dataset_at c.args.registry.now c.args.depth)
    c.args.form c.in-Nested.id c.args.count c.args.bytes.now c.in-Nested.is

pub skip_datasets-returns-in-Some : goal.skip_datasets-returns-in-Some
skip_datasets-returns-in-Some t c =
    let values = dataset_skipped_whole c.args.registry.now
    c.args.depth c.args.id c.in-Some.size c.requires.deep c.in-Some.ensures.value in
    c.skip_fixed.ensures
    ∙ sym (repeated_skips (dataset_at c.args.registry.now c.args.depth c.args.id)
    c.in-Some.size values c.args.count c.args.bytes.now)

pub skip_datasets-unwrap-elements-requires : goal.skip_datasets-unwrap-elements-requires
skip_datasets-unwrap-elements-requires t c =
    some_seen (λ es. es.now) c.elements.result _ c.elements.ensures.value
    (within_known c.args.registry.now c.args.depth c.args.id c.requires.deep)

pub skip_datasets-overflow_sub-depth : goal.skip_datasets-overflow_sub-depth
skip_datasets-overflow_sub-depth t c =
    within_some c.args.registry.now c.args.depth c.args.id c.requires.deep

pub skip_datasets-skip_elements-requires : goal.skip_datasets-skip_elements-requires
skip_datasets-skip_elements-requires t c =
    let some = within_some c.args.registry.now c.args.depth c.args.id c.requires.deep in
    let known = sym c.elements.ensures.value
    ∙ ap (option_map (λ es. es.now)) c.unwrap-elements.ensures in (
      omega (arith, some),
      (
        c.requires.sound,
        (
          within_below c.args.registry.now c.args.depth
              c.args.id _ c.requires.deep known,
          c.requires.sound.counted c.args.id _ known,
        ),
      ),
    )

pub skip_datasets-loop-preserved : goal.skip_datasets-loop-preserved
skip_datasets-loop-preserved t c =
    let some = within_some c.args.registry.now c.args.depth c.args.id c.requires.deep in
    let known = sym c.elements.ensures.value
    ∙ ap (option_map (λ es. es.now)) c.unwrap-elements.ensures in
    repeated_turn (dataset_at c.args.registry.now c.args.depth c.args.id)
    c.args.count c.loop.counter c.loop.rest.now c.in_ok-rest.rest.now c.loop-test.true
    (c.in_ok-rest.ensures ∙ sym (dataset_skipped c.args.registry.now
    c.args.depth c.args.id c.loop.rest.now _ some known)) ∙ c.loop.invariant

pub skip_datasets-returns-in_err-rest : goal.skip_datasets-returns-in_err-rest
skip_datasets-returns-in_err-rest t c =
    let some = within_some c.args.registry.now c.args.depth c.args.id c.requires.deep in
    let known = sym c.elements.ensures.value
    ∙ ap (option_map (λ es. es.now)) c.unwrap-elements.ensures in
    rw c.from_residual.ensures (repeated_halt (dataset_at c.args.registry.now
    c.args.depth c.args.id) c.args.count c.loop.counter c.loop.rest.now c.loop-test.true
    (c.in_err-rest.ensures ∙ sym (dataset_skipped c.args.registry.now
    c.args.depth c.args.id c.loop.rest.now _ some known)) ∙ c.loop.invariant)

pub skip_datasets-returns : goal.skip_datasets-returns
skip_datasets-returns t c =
    repeated_done (dataset_at c.args.registry.now c.args.depth c.args.id)
    c.args.count c.loop.counter c.loop.rest.now c.loop-test.false ∙ c.loop.invariant

pub skip_elements-read_count-requires : goal.skip_elements-read_count-requires
skip_elements-read_count-requires t c =
    counts_at _ c.args.elements.now c.loop-i.i
    _ c.requires.counted c.loop-i-test.true (sym c.is_counted.ensures ∙ c.if-is_counted.true)

pub skip_elements-returns-in_err-number : goal.skip_elements-returns-in_err-number
skip_elements-returns-in_err-number t c =
    let read = form_at (dataset_at c.args.registry.now c.args.depth) in
    rw c.from_residual.ensures (entries_halt read
    c.args.elements.now c.loop-i.i _ c.loop-i.count c.loop-i.rest.now c.loop-i-test.true
    (skipped_none _ (c.in_err-number.ensures (dataset_at c.args.registry.now c.args.depth)
    c.loop-i.count)) ∙ c.loop-i.invariant)

pub skip_elements-skip_values-requires : goal.skip_elements-skip_values-requires
skip_elements-skip_values-requires t c = (
  omega arith,
  (
    c.requires.sound,
    ap (passes (is_within c.args.registry.now c.args.depth))
        c.form.ensures.value ∙ pass_at (is_within c.args.registry.now c.args.depth)
        c.args.elements.now c.loop-i.i _ c.requires.deep c.loop-i-test.true,
  ),
)

pub skip_elements-returns-in_err-rest : goal.skip_elements-returns-in_err-rest
skip_elements-returns-in_err-rest t c =
    let read = form_at (dataset_at c.args.registry.now c.args.depth) in
    rw c.from_residual-in_err-rest.ensures (entries_halt read
    c.args.elements.now c.loop-i.i _ c.loop-i.count c.loop-i.rest.now c.loop-i-test.true
    (entry_skipped read c.form.result _ c.loop-i.count c.item_count-values.result
    c.loop-i.rest.now _ c.form.ensures.value c.item_count-values.ensures c.in_err-rest.ensures)
    ∙ c.loop-i.invariant)

pub skip_elements-loop-i-preserved : goal.skip_elements-loop-i-preserved
skip_elements-loop-i-preserved t c =
    let read = form_at (dataset_at c.args.registry.now c.args.depth) in
    elim c.if-is_counted.branch [
      | skip_elements-then-is_counted+in_ok-number w ↦
          rw (w.count-is, w.rest-is)
          (entries_counted read c.args.elements.now c.loop-i.i _ c.loop-i.count
          c.loop-i.rest.now w.in_ok-number.number w.in_ok-number.next.now c.loop-i-test.true
          (w.in_ok-number.ensures (dataset_at c.args.registry.now c.args.depth) c.loop-i.count)
          ∙ c.loop-i.invariant)
      | skip_elements-else-is_counted+in_ok-rest w ↦
          rw (w.count-is, w.rest-is)
          (entries_turn read c.args.elements.now c.loop-i.i _ c.loop-i.count
          c.loop-i.rest.now c.loop-i.count w.in_ok-rest.rest.now c.loop-i-test.true
          (sym w.if-is_counted.false ∙ c.is_counted.ensures)
          (entry_skipped read w.form.result _
          c.loop-i.count w.item_count-values.result c.loop-i.rest.now _ w.form.ensures.value
          w.item_count-values.ensures w.in_ok-rest.ensures) ∙ c.loop-i.invariant)
    ]

pub skip_elements-returns : goal.skip_elements-returns
skip_elements-returns t c =
    entries_done (form_at (dataset_at c.args.registry.now c.args.depth)) c.args.elements.now
    c.loop-i.i c.loop-i.count c.loop-i.rest.now c.loop-i-test.false ∙ c.loop-i.invariant
