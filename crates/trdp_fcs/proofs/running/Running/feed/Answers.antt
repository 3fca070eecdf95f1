use Rattle.std.proofs.Common.{arith, ◌∙◌}
use Rattle.trdp_fcs.proofs.PieceLemmas.{check_goes_on}
use Rattle.trdp_fcs.proofs.running.Running.feed.Goals as goal

pub returns : goal.returns
returns c = λ before e.
    rw c.past-after.ensures
    (check_goes_on before c.args.bytes.now c.self.inside.check
    (λ i. omega (arith, c.type_inv.bytes i)) (c.self.view_is ∙ e))
