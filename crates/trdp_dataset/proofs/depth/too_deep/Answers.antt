use Rattle.trdp_dataset.specs.Faults.{too_deep_in}
use Rattle.std.proofs.Common.{Bool, List, ap, ◌∙◌}
use Rattle.std.specs.List.{list_all}
use Rattle.trdp_dataset.specs.Depths.{is_within}
use Rattle.trdp_dataset.proofs.RowLemmas.{all_of_row, deep_shown}
use Rattle.trdp_dataset.proofs.depth.too_deep.Goals as goal

pub returns : goal.returns
unfolding too_deep_in
returns c =
    let ds = c.args.datasets.now in
    let row = c.in_ok-within.ensures.row 4
    (c.deref.ensures.value ∙ c.in_ok-nestable.ensures.row) in
    let all = c.all_true.ensures ∙ (ap (λ (xs : List Bool). list_all (λ b. b) xs)
    c.deref-2.ensures.value ∙ all_of_row (is_within ds 5) ds c.in_ok-within.within.items row) in
    record { value = deep_shown c.all_true.result (list_all (λ d. is_within ds 5 d.id) ds) all }
