-- How a registry is stored.
use Rattle.std.specs.Prelude.{ℕ, Bool, List, map, min, Vec}
use Rattle.std.specs.declared.alloc.Global.{Global}
use Rattle.trdp_dataset.specs.declared.element.Element.{Element}
use Rattle.trdp_dataset.specs.Datasets.{DatasetModel}
use Rattle.trdp_dataset.specs.Limits.{size_cap}
use Rattle.trdp_dataset.specs.ZeroSizes.{dataset_size, zero_size}
use Rattle.trdp_dataset.specs.Depths.{is_within}

-- the datasets of the entries of a map from identifiers to elements
abbrev pub datasets_of : List (ℕ × Vec Element Global) → List DatasetModel
datasets_of entries = map (λ e. record { id = e.0; elements = e.1.items }) entries

-- the sizes of the zero values, in order
abbrev pub zero_sizes_of : List DatasetModel → List ℕ
zero_sizes_of registry = map (λ d. zero_size registry d.id) registry

-- whether each dataset is of at most that depth, in order
abbrev pub within_row : List DatasetModel → ℕ → List Bool
within_row registry depth = map (λ d. is_within registry depth d.id) registry

-- how many bytes the zero value of each dataset has down to a depth, as far as they are counted, in
-- order
abbrev pub size_row : List DatasetModel → ℕ → List ℕ
size_row registry depth = map (λ d. min (dataset_size registry depth d.id) size_cap) registry
