use Rattle.trdp_lines.proofs.GiveLemmas.{speaks_is}
use Rattle.std.proofs.Common.{◌∙◌}
use Rattle.trdp_lines.proofs.path.Path.speaks.Goals as goal

pub returns : goal.returns
returns g c = rw (← c.self.view_is) (c.is_some.ensures
    ∙ speaks_is c.self.inside.seats.items c.args.number c.place_of.result
    (rw c.deref.ensures.value at c.place_of.ensures))
