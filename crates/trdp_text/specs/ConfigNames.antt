-- The words of a fault of the configuration.
use Rattle.std.specs.Prelude.{ℕ, List, [], ◌++◌, codes}
use Rattle.trdp_base.specs.NumberText.{text_of_number}
use Rattle.trdp_dataset.specs.Keys.{key_text}
use Rattle.trdp_dataset.specs.declared.fault.ConfigFault.{ConfigFault}
use Rattle.trdp_dataset.specs.declared.fault.ConfigFault.TheVariants.{Toml, Missing, WrongType}
use Rattle.trdp_dataset.specs.declared.fault.ConfigFault.TheVariants.{Real, BadId, TwiceId}
use Rattle.trdp_dataset.specs.declared.fault.ConfigFault.TheVariants.{NoDataset, NoCount, TooDeep}
use Rattle.trdp_dataset.specs.declared.fault.ConfigFault.TheVariants.{TooBig, TooMany, OutOfMemory}

-- the name of a fault of the configuration
abbrev pub name_of_config_fault : ConfigFault → List ℕ
name_of_config_fault Toml = codes "Toml"
name_of_config_fault (Missing key) = codes "Missing"
name_of_config_fault (WrongType key) = codes "WrongType"
name_of_config_fault Real = codes "Real"
name_of_config_fault BadId = codes "BadId"
name_of_config_fault TwiceId = codes "TwiceId"
name_of_config_fault (NoDataset id) = codes "NoDataset"
name_of_config_fault NoCount = codes "NoCount"
name_of_config_fault TooDeep = codes "TooDeep"
name_of_config_fault TooBig = codes "TooBig"
name_of_config_fault TooMany = codes "TooMany"
name_of_config_fault OutOfMemory = codes "OutOfMemory"

-- what follows the name, with a space before it: the key, or the identifier of the dataset that
-- isn't there
abbrev pub detail_of_config_fault : ConfigFault → List ℕ
detail_of_config_fault (Missing key) = codes " " ++ key_text key
detail_of_config_fault (WrongType key) = codes " " ++ key_text key
detail_of_config_fault (NoDataset id) = codes " " ++ text_of_number id
detail_of_config_fault _ = []

-- the line of a fault of the configuration, without its end
-- rule: run.config
abbrev pub text_of_config_fault : ConfigFault → List ℕ
text_of_config_fault fault =
    codes "config fault " ++ name_of_config_fault fault ++ detail_of_config_fault fault
