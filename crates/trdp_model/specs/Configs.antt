-- What a slot may know of the configuration, and what objects and values need of it.
use Rattle.std.specs.Prelude.{ℕ, List, Bool, ◌==◌, ◌||◌, if◌then◌else◌}
use Rattle.trdp_dataset.specs.Datasets.{DatasetModel, is_known}
use Rattle.trdp_dataset.specs.ZeroSizes.{zero_size}
use Rattle.trdp_dataset.specs.Configs.{ConfigModel}
use Rattle.trdp_marshal.specs.Reading.{is_fitting_in as fits_dataset}

-- what a slot may know of the configuration: the datasets, and the node's address and its ports of
-- process and message data; neither the quotas nor the control port of another slot
pub record NodeSetup : Type 0 where
  pub registry : List DatasetModel
  pub address : ℕ
  pub pd_port : ℕ
  pub md_port : ℕ

-- the part of a configuration that a slot may know
abbrev pub setup_of : ConfigModel → NodeSetup
setup_of config = record {
  registry = config.registry;
  address = config.address;
  pd_port = config.pd_port;
  md_port = config.md_port;
}

-- a dataset that values may be of: one of the registry, or 0, which any bytes are of
abbrev pub is_dataset : NodeSetup → ℕ → Bool
is_dataset setup dataset = dataset == 0 || is_known setup.registry dataset

-- how many bytes the zero value of a dataset has; of dataset 0 none
abbrev pub zero_size_of : NodeSetup → ℕ → ℕ
zero_size_of setup dataset = if dataset == 0 then 0 else zero_size setup.registry dataset

-- the bytes are a value of the dataset
abbrev pub is_fitting : NodeSetup → ℕ → List ℕ → Bool
is_fitting setup dataset bytes = fits_dataset setup.registry dataset bytes
