use Rattle.std.proofs.Common.{◌∙◌}
use Rattle.trdp_dataset.proofs.LookupLemmas.{known_stored, id_found_if}
use Rattle.trdp_dataset.proofs.datasets.Datasets.index_of.Goals as goal

pub returns-clause-found : goal.returns-clause-found
returns-clause-found c = rw (← c.self.view_is)
    (c.get_index_of.ensures.found ∙ known_stored c.self.inside.by_id.entries c.args.id)

pub returns-clause-index : goal.returns-clause-index
returns-clause-index c = rw (← c.self.view_is) (id_found_if c.self.inside.by_id.entries
    c.args.id c.get_index_of.result c.get_index_of.ensures.index)
