use Rattle.std.proofs.Common.{◌≤◌, ℕ, Some, sym, ap, ◌∙◌, subst}
use Rattle.trdp_dataset.proofs.LookupLemmas.{size_found}
use Rattle.trdp_dataset.proofs.FixedRowLemmas.{unknown_fixed, fixed_found, fixed_when, fixed_unless}
use Rattle.trdp_dataset.proofs.registry.Registry.fixed_size.Goals as goal

pub returns-then-index-clause-value : goal.returns-then-index-clause-value
returns-then-index-clause-value c =
    let ds = c.self.inside.datasets in
    let is_fixed = fixed_found ds c.self.inside.fixed.items c.args.id
    c.in-Some.i c.index.result.now c.self.invariant.2 c.in-Some.ensures.index c.index.ensures in
    let size = c.index-then-index.ensures ∙ size_found ds c.self.inside.zero_sizes.items
    c.args.id c.in-Some.i _ c.self.invariant.1 c.in-Some.ensures.index in
    rw (← c.self.view_is) (ap (λ (n : ℕ). Some n) size
    ∙ sym (fixed_when ds c.args.id (sym is_fixed ∙ c.if-index.true)))

pub returns-then-index-clause-bound : goal.returns-then-index-clause-bound
returns-then-index-clause-bound c =
    let ds = c.self.inside.datasets in
    let size = c.index-then-index.ensures ∙ size_found ds c.self.inside.zero_sizes.items
    c.args.id c.in-Some.i _ c.self.invariant.1 c.in-Some.ensures.index in
    subst (λ (n : ℕ). n ≤ 65388) (sym size) (c.self.invariant.0.sized c.args.id)

pub returns-else-index-clause-value : goal.returns-else-index-clause-value
returns-else-index-clause-value c =
    let ds = c.self.inside.datasets in
    let is_fixed = fixed_found ds c.self.inside.fixed.items c.args.id
    c.in-Some.i c.index.result.now c.self.invariant.2 c.in-Some.ensures.index c.index.ensures in
    rw (← c.self.view_is) (sym (fixed_unless ds c.args.id (sym is_fixed ∙ c.if-index.false)))

pub returns-in-None-clause-value : goal.returns-in-None-clause-value
returns-in-None-clause-value c =
    let ds = c.self.inside.datasets in
    rw (← c.self.view_is) (sym
    (fixed_unless ds c.args.id (sym (unknown_fixed ds 5 c.args.id c.in-None.ensures.found))))
