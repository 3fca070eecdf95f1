use Rattle.trdp_lines.proofs.OrderLemmas.{nothing_new}
use Rattle.trdp_lines.proofs.path.Path.new.Goals as goal

pub returns-in-Ok-clause-nothing_left : goal.returns-in-Ok-clause-nothing_left
returns-in-Ok-clause-nothing_left g c = rw (c.in-Ok.ensures, c.seats.ensures, c.rule.ensures)
    (nothing_new g.P.Policy.rule)
