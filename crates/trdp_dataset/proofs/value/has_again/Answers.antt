use Rattle.std.proofs.Common.{◌∙◌, ap, List}
use Rattle.std.specs.List.{list_any}
use Rattle.toml.specs.View.{view}
use Rattle.toml.specs.declared.value.Value.{Value}
use Rattle.trdp_dataset.specs.Values.{gives}
use Rattle.trdp_dataset.proofs.AgainLemmas.{none_again, other_again, one_again}
use Rattle.trdp_dataset.proofs.value.has_again.Goals as goal
use Rattle.trdp_dataset.proofs.value.has_again.Goals.{in-Some+else-any_gives, in_default}

pub returns-then-any_gives : goal.returns-then-any_gives
returns-then-any_gives c =
    let behind = ap (λ (vs : List Value). list_any (λ v. gives c.args.least c.args.greatest
    c.in-Some.address (view v)) vs) c.split_at.ensures.back in
    record {
      value = one_again c.args.least c.args.greatest c.args.items.now c.loop-index.index
          c.index-items-index.result c.in-Some.address _ c.loop-index-test.true
          c.index-items-index.is c.in-Some.ensures.value
          (c.if-any_gives.ensures.value ∙ behind) c.loop-index.invariant;
    }

pub loop-index-preserved : goal.loop-index-preserved
loop-index-preserved c = elim c.match-address_within.branch [
  | in-Some+else-any_gives w ↦
      let behind = ap (λ (vs : List Value). list_any (λ v. gives c.args.least c.args.greatest
      w.in-Some.address (view v)) vs) w.split_at.ensures.back in
      other_again c.args.least c.args.greatest c.args.items.now c.loop-index.index
      c.index-items-index.result w.in-Some.address _ c.loop-index-test.true
      c.index-items-index.is w.in-Some.ensures.value
      (w.if-any_gives.ensures.value ∙ behind) c.loop-index.invariant
  | in_default w ↦ none_again c.args.least c.args.greatest c.args.items.now c.loop-index.index
      c.index-items-index.result _ c.loop-index-test.true
      c.index-items-index.is w.in_default.ensures.value c.loop-index.invariant
]
