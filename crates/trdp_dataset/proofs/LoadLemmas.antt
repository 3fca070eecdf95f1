-- The checks of a file, one after the other.
-- For `load`: a lemma for each way in which it ends.
-- By: a check that finds a fault comes before the later ones, and any other is skipped.
use Rattle.std.proofs.Common.{◌≡◌, List, [], ◌∷◌, Option, Some, None}
use Rattle.std.proofs.Common.{map, refl, sym, ap, ◌∙◌, IfSome, subst}
use Rattle.trdp_dataset.specs.declared.fault.ConfigFault.{ConfigFault}
use Rattle.trdp_dataset.specs.Datasets.{DatasetModel}
use Rattle.trdp_dataset.specs.Positions.{PositionModel}
use Rattle.trdp_dataset.specs.Faults.{IsFaultOf, before_datasets, fault_at, least_of_two}
use Rattle.trdp_dataset.specs.Faults.{least_fault, first_fault, twice_id_in}
use Rattle.trdp_dataset.specs.Faults.{no_dataset_in, no_count_in, too_deep_in}
use Rattle.trdp_dataset.specs.Faults.{too_big_in, dataset_fault, fit_fault, fault_in}
use Rattle.trdp_dataset.proofs.FaultLemmas.{fault_comes, fault_moves, first_here, first_later}
use Rattle.trdp_dataset.proofs.LeastLemmas.{least_alone}
use Rattle.trdp_dataset.proofs.SingleFaultLemmas.{IsOfPosition, IsLate, least_single, dataset_own}
use Rattle.trdp_dataset.proofs.SingleFaultLemmas.{early, early_first, before_first, late_last}

alone : (o : Option ConfigFault) → first_fault (o ∷ []) ≡ o
alone None = refl
alone (Some f) = refl

module _ (positions : List PositionModel) (ds : List DatasetModel) where
  least : Option ConfigFault
  least = least_fault (map fault_at positions)

  is_single : (f : ConfigFault) → Some f ≡ least → IsOfPosition f
  unfolding least
  is_single f e =
      subst (λ (o : Option ConfigFault). IfSome o IsOfPosition) (sym e) (least_single positions)

  -- a fault of a position other than too many of something
  pub position_stops : (fault : ConfigFault)
      → Some fault ≡ before_datasets (least_fault (map fault_at positions))
      → IsFaultOf fault (fault_in positions ds)
  unfolding fault_in least
  position_stops fault before =
      let b = before_first (least_fault (map fault_at positions)) fault before in
      fault_comes fault (fault_in positions ds)
      (ap (λ o. least_of_two o (dataset_fault ds)) (sym b.0) ∙ early_first fault
      (dataset_fault ds) (early fault (is_single fault b.0) b.1) (dataset_own ds))

  own_stops : (fault : ConfigFault) → IsLate (least_fault (map fault_at positions))
      → IsFaultOf fault (dataset_fault ds) → IsFaultOf fault (fault_in positions ds)
  unfolding fault_in
  own_stops fault late h =
      fault_moves fault (dataset_fault ds) (fault_in positions ds) (λ f e. late_last
      (least_fault (map fault_at positions)) (dataset_fault ds) f late e (dataset_own ds)) h

  pub twice_stops : (fault : ConfigFault) → IsLate (least_fault (map fault_at positions))
      → IsFaultOf fault (twice_id_in ds) → IsFaultOf fault (fault_in positions ds)
  twice_stops fault late h =
      let fitting = no_dataset_in ds ∷ no_count_in ds ∷ too_deep_in ds ∷ too_big_in ds ∷ [] in
      own_stops fault late (fault_moves fault (twice_id_in ds) (dataset_fault ds)
      (λ f e. first_here (twice_id_in ds ∷ []) fitting f (alone (twice_id_in ds) ∙ e)) h)

  fitting_left : twice_id_in ds ≡ None → dataset_fault ds ≡ fit_fault ds
  fitting_left twice =
      first_later (twice_id_in ds ∷ []) (no_dataset_in ds
      ∷ no_count_in ds ∷ too_deep_in ds ∷ too_big_in ds ∷ []) (alone (twice_id_in ds) ∙ twice)

  pub fit_stops : (fault : ConfigFault) → IsLate (least_fault (map fault_at positions))
      → twice_id_in ds ≡ None → IsFaultOf fault (fit_fault ds)
      → IsFaultOf fault (fault_in positions ds)
  fit_stops fault late twice h =
      own_stops fault late (subst (IsFaultOf fault) (sym (fitting_left twice)) h)

  -- where datasets have no fault that of the positions is left
  pub least_left : twice_id_in ds ≡ None → fit_fault ds ≡ None
      → fault_in positions ds ≡ least_fault (map fault_at positions)
  unfolding fault_in
  least_left twice fit = ap (least_of_two (least_fault (map fault_at positions)))
      (fitting_left twice ∙ fit) ∙ least_alone (least_fault (map fault_at positions))
