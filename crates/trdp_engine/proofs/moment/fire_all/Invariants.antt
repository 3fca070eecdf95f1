use Rattle.trdp_engine.proofs.MomentLemmas.AllFire.{IsMoving, due_left}
use Rattle.trdp_engine.proofs.CostLemmas.Moments.{IsCounting}
use Rattle.trdp_engine.proofs.moment.fire_all.Given as goal

-- what was recorded and what is left to fire are the whole moment, and so are the counts
abbrev pub invariant-loop-next : goal.invariant-loop-next
invariant-loop-next l = record {
  moving : IsMoving l.globals l.fn.store l.fn.out.records l.store l.out;
  counting : IsCounting l.globals l.fn.store l.fn.counts l.store l.counts;
}

abbrev pub decreases-loop-next : goal.decreases-loop-next
decreases-loop-next l = due_left l.globals l.store
