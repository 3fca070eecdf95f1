use Rattle.std.proofs.Common.{List, slice_get, ap, sym, ◌∙◌}
use Rattle.trdp_model.specs.Records.{RecordModel}
use Rattle.trdp_net.proofs.TellingLemmas.{latest_at}
use Rattle.trdp_net.proofs.told.latest.Goals as goal

pub returns-in-Some : goal.returns-in-Some
returns-in-Some c =
    c.get.ensures
    ∙ ap (λ (xs : List RecordModel). slice_get xs c.args.i)
    (sym (latest_at c.args.events.now c.in-Some.told.now (sym c.in-Some.ensures.value)))
