use Rattle.trdp_dataset.proofs.LeastLemmas.{walk_turn}
use Rattle.trdp_dataset.proofs.position_fault.least_fault.Goals as goal

pub loop-position-preserved : goal.loop-position-preserved
loop-position-preserved c =
    walk_turn c.args.positions.now c.loop-position.position-index c.position-item.result
    c.loop-position.least c.fault.result c.least_of_two-least.result _ c.loop-position-test.true
    c.position-item.is c.fault.ensures.value c.least_of_two-least.ensures.value
    c.loop-position.invariant
