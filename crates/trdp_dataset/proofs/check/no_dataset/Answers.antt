use Rattle.std.proofs.Common.{ℕ, not, option_map, ap}
use Rattle.trdp_dataset.specs.declared.fault.ConfigFault.TheVariants.{NoDataset}
use Rattle.trdp_dataset.specs.Datasets.{is_known}
use Rattle.trdp_dataset.specs.Faults.{no_dataset_in, nested_ids}
use Rattle.trdp_dataset.proofs.LoopLemmas.{first_made, none_made}
use Rattle.trdp_dataset.proofs.check.no_dataset.Goals as goal

pub returns-in-Some : goal.returns-in-Some
unfolding no_dataset_in
returns-in-Some c = record {
  value = ap (λ o. option_map (λ (id : ℕ). NoDataset id) o)
      (first_made (λ id. not (is_known c.args.datasets.now id))
      nested_ids c.args.datasets.now c.loop-i.i c.elements_at.result.now
      c.in-Some.id c.elements_at.ensures.value c.in-Some.ensures.value c.loop-i.invariant);
}

pub loop-i-preserved : goal.loop-i-preserved
loop-i-preserved c = none_made (λ id. not (is_known c.args.datasets.now id))
    nested_ids c.args.datasets.now c.loop-i.i
    c.elements_at.result.now c.elements_at.ensures.value c.in-None.ensures.value c.loop-i.invariant
