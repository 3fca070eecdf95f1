use Rattle.std.proofs.Common.{map, ap, ◌∙◌, List}
use Rattle.toml.specs.View.{view}
use Rattle.toml.specs.declared.value.Value.{Value}
use Rattle.trdp_dataset.proofs.ArrayLemmas.{items_seen}
use Rattle.trdp_dataset.proofs.value.items.Goals as goal

pub returns-in-Some : goal.returns-in-Some
returns-in-Some c = record {
  value = ap (λ (vs : List Value). map view vs) c.as_slice.ensures.value
      ∙ items_seen (view c.args.value.now) c.in-Some.array.now.items c.in-Some.ensures;
}
