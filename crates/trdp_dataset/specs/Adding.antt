-- How datasets are added one after the other.
use Rattle.std.specs.Prelude.{◌≡◌, false, ◌++◌, List, [], ◌∷◌, Option, Some, None, if◌then◌else◌}
use Rattle.trdp_dataset.specs.declared.fault.ConfigFault.{ConfigFault}
use Rattle.trdp_dataset.specs.declared.fault.ConfigFault.TheVariants.{TwiceId}
use Rattle.trdp_dataset.specs.Datasets.{DatasetModel, is_known}

-- the dataset, if there is one, was new and is at the end
abbrev pub AddsDataset : List DatasetModel → List DatasetModel → Option DatasetModel → Type 0
AddsDataset old new None = new ≡ old
AddsDataset old new (Some d) = (is_known old d.id ≡ false) × (new ≡ old ++ d ∷ [])

-- the dataset has the identifier of an earlier one
abbrev pub twice_fault : List DatasetModel → Option DatasetModel → Option ConfigFault
twice_fault old None = None
twice_fault old (Some d) = if is_known old d.id then Some TwiceId else None
