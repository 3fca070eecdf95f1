use Rattle.std.proofs.Common.{◌≡◌, drop, not}
use Rattle.std.specs.Prelude.{find}
use Rattle.std.specs.List.{flat_map}
use Rattle.trdp_dataset.specs.Datasets.{is_known}
use Rattle.trdp_dataset.specs.Faults.{nested_ids}
use Rattle.trdp_dataset.proofs.check.no_dataset.Given as goal

abbrev pub invariant-loop-i : goal.invariant-loop-i
invariant-loop-i l =
    find (λ id. not (is_known l.datasets id))
    (flat_map (λ d. nested_ids d.elements) (drop l.i l.datasets)) ≡ find
    (λ id. not (is_known l.datasets id)) (flat_map (λ d. nested_ids d.elements) l.datasets)
