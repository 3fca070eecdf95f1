use Rattle.trdp_dataset.specs.Limits.{size_cap}
use Rattle.std.proofs.Common.{arith, ap, ◌∙◌}
use Rattle.std.specs.Prelude.{min}
use Rattle.trdp_dataset.specs.declared.element.ElementKind.TheVariants.{Bool8}
use Rattle.trdp_dataset.specs.ZeroSizes.{form_size, dataset_size}
use Rattle.trdp_dataset.proofs.SizeLemmas.{size_turn, size_end}
use Rattle.trdp_dataset.proofs.size.entries_size.Goals as goal

pub loop-element-preserved : goal.loop-element-preserved
loop-element-preserved c = record {
  bound = omega (arith, c.added-total.ensures);
  sum = λ depth row.
      let one = c.form_size-size.ensures depth row
      ∙ ap (λ form. min (form_size (dataset_size c.args.datasets.now depth) form) size_cap)
      c.form.ensures.value in
      size_turn (form_size (dataset_size c.args.datasets.now depth)) c.args.elements.now
      c.loop-element.element-index (record { kind = Bool8; size = 0 }) c.loop-element.total
      c.added-total.result c.form_size-size.result size_cap _ c.loop-element-test.true
      one c.added-total.ensures (c.loop-element.invariant.sum depth row);
}

pub returns : goal.returns
returns c = λ depth row.
    size_end (form_size (dataset_size c.args.datasets.now depth)) c.args.elements.now
    c.loop-element.element-index c.loop-element.total size_cap _ c.loop-element-test.false
    c.loop-element.invariant.bound (c.loop-element.invariant.sum depth row)
