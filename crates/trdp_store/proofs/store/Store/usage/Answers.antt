use Rattle.std.proofs.Common.{◌∙◌, ap}
use Rattle.trdp_model.specs.Slots.{kind_count}
use Rattle.trdp_table.specs.Tables.{TableState}
use Rattle.trdp_store.specs.Acting.{slot_at}
use Rattle.trdp_store.proofs.StoreLemmas.Kinds.{slot_counted}
use Rattle.trdp_store.proofs.store.Store.usage.Goals as goal

pub returns-clause-count : goal.returns-clause-count
returns-clause-count c =
    c.usage.ensures.count
    ∙ slot_counted c.self.inside.table c.args.slot c.args.kind c.self.invariant.kinds
    ∙ ap (λ (t : TableState). kind_count c.args.kind (slot_at c.args.slot t).objects) c.self.view_is
