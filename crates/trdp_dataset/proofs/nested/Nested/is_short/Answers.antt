use Rattle.std.proofs.Common.{nat_le, ap, ◌∙◌}
use Rattle.trdp_dataset.specs.Limits.{size_cap}
use Rattle.trdp_dataset.specs.Misfits.{is_short}
use Rattle.trdp_dataset.proofs.SizeLemmas.{small_tested, countable}
use Rattle.trdp_dataset.proofs.nested.Nested.is_short.Goals as goal

pub returns : goal.returns
unfolding is_short
returns c = record {
  value = c.is_small.ensures ∙ (ap (λ n. nat_le n 65388) c.size.ensures.value
      ∙ small_tested _ 65388 size_cap countable);
}
