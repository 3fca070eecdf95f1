use Rattle.trdp_dataset.specs.Faults.{no_count_in}
use Rattle.std.proofs.Common.{Some, None, false, if◌then◌else◌, ap}
use Rattle.trdp_dataset.specs.declared.fault.ConfigFault.TheVariants.{NoCount}
use Rattle.trdp_dataset.specs.Datasets.{all_counted}
use Rattle.trdp_dataset.proofs.LoopLemmas.{each_passed, each_failed}
use Rattle.trdp_dataset.proofs.check.no_count.Goals as goal

pub returns-then-not-is_counted : goal.returns-then-not-is_counted
unfolding no_count_in
returns-then-not-is_counted c = record {
  value = ap (λ b. if b then None else Some NoCount)
      (each_failed (all_counted false) c.args.datasets.now c.loop-i.i c.elements_at.result.now
      c.elements_at.ensures.value c.if-not-is_counted.ensures.value c.loop-i.invariant);
}

pub loop-i-preserved : goal.loop-i-preserved
loop-i-preserved c =
    each_passed (all_counted false) c.args.datasets.now c.loop-i.i c.elements_at.result.now
    c.elements_at.ensures.value c.if-not-is_counted.ensures.value c.loop-i.invariant
