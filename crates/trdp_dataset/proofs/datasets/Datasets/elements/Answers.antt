use Rattle.std.proofs.Common.{List, Some, Option, option_map, Vec, Global, ap, ◌∙◌}
use Rattle.trdp_dataset.specs.declared.element.Element.{Element}
use Rattle.trdp_dataset.specs.Datasets.{DatasetModel, elements_of}
use Rattle.trdp_dataset.proofs.LookupLemmas.{elements_stored}
use Rattle.trdp_dataset.proofs.datasets.Datasets.elements.Goals as goal

pub returns-in-Some : goal.returns-in-Some
returns-in-Some c = record {
  value = ap (λ (es : List Element). Some es) c.as_slice.ensures.value
      ∙ (ap (λ (o : Option (Vec Element Global)).
      option_map (λ (v : Vec Element Global). v.items) o) c.in-Some.ensures.value
      ∙ (elements_stored c.self.inside.by_id.entries c.args.id
      ∙ ap (λ (r : List DatasetModel). elements_of r c.args.id) c.self.view_is));
}

pub returns-in-None : goal.returns-in-None
returns-in-None c = record {
  value = ap (λ (o : Option (Vec Element Global)).
      option_map (λ (v : Vec Element Global). v.items) o) c.in-None.ensures.value
      ∙ (elements_stored c.self.inside.by_id.entries c.args.id
      ∙ ap (λ (r : List DatasetModel). elements_of r c.args.id) c.self.view_is);
}
