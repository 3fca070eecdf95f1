use Rattle.std.proofs.Common.{Bool, Some, None, if◌then◌else◌, nat_le, ap, ◌∙◌}
use Rattle.std.specs.List.{list_all}
use Rattle.trdp_dataset.specs.declared.fault.ConfigFault.TheVariants.{TooBig}
use Rattle.trdp_dataset.proofs.SizeLemmas.{exact_sizes, big_shown}
use Rattle.trdp_dataset.proofs.check.small_sizes.Goals as goal

pub returns-then-all_small-clause-sizes : goal.returns-then-all_small-clause-sizes
returns-then-all_small-clause-sizes c =
    exact_sizes c.args.datasets.now c.in_ok-sizes.sizes.items
    c.all_small.result c.in_ok-sizes.ensures (c.all_small.ensures
    ∙ ap (list_all (λ n. nat_le n 65388)) c.deref.ensures.value) c.if-all_small.true

pub returns-then-all_small-clause-answers : goal.returns-then-all_small-clause-answers
returns-then-all_small-clause-answers c =
    big_shown c.args.datasets.now c.in_ok-sizes.sizes.items c.all_small.result c.in_ok-sizes.ensures
    (c.all_small.ensures ∙ ap (list_all (λ n. nat_le n 65388)) c.deref.ensures.value)
    ∙ ap (λ (b : Bool). if b then None else Some TooBig) c.if-all_small.true

pub returns-else-all_small-clause-answers : goal.returns-else-all_small-clause-answers
returns-else-all_small-clause-answers c =
    big_shown c.args.datasets.now c.in_ok-sizes.sizes.items c.all_small.result c.in_ok-sizes.ensures
    (c.all_small.ensures ∙ ap (list_all (λ n. nat_le n 65388)) c.deref.ensures.value)
    ∙ ap (λ (b : Bool). if b then None else Some TooBig) c.if-all_small.false
