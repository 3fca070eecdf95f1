-- The table of keys of a configuration file.
use Rattle.std.specs.Prelude.{ℕ, Bool, true, false, List, [], ◌∷◌, codes}
use Rattle.trdp_dataset.specs.declared.key.Key.{Key}
use Rattle.trdp_dataset.specs.declared.key.Key.TheVariants.{Node, Address, PdPort, MdPort}
use Rattle.trdp_dataset.specs.declared.key.Key.TheVariants.{OperatorPort, SpareControlPorts}
use Rattle.trdp_dataset.specs.declared.key.Key.TheVariants.{ControlAddress, Groups, Ttl}
use Rattle.trdp_dataset.specs.declared.key.Key.TheVariants.{Slot, Publishers}
use Rattle.trdp_dataset.specs.declared.key.Key.TheVariants.{Subscriptions, Requesters}
use Rattle.trdp_dataset.specs.declared.key.Key.TheVariants.{Listeners, Callers, Repliers}
use Rattle.trdp_dataset.specs.declared.key.Key.TheVariants.{ControlPort, Dataset, DatasetId}
use Rattle.trdp_dataset.specs.declared.key.Key.TheVariants.{Elements, ElementType, ElementSize}
use Rattle.trdp_dataset.specs.declared.key.Wanted.{Wanted}
use Rattle.trdp_dataset.specs.declared.key.Wanted.TheVariants as wanted
use Rattle.trdp_dataset.specs.declared.key.Absent.{Absent}
use Rattle.trdp_dataset.specs.declared.key.Absent.TheVariants as absent

-- a row of the table: the key as the file has it, what its value has to be, and what it means that
-- it isn't there
pub record KeyRowModel : Type 0 where
  pub text : List ℕ
  pub wanted : Wanted
  pub absent : Absent

abbrev pub row : List ℕ → Wanted → Absent → KeyRowModel
row text wants lacks = record { text = text; wanted = wants; absent = lacks }

-- the table of keys: the root's `node`, the node's keys, the root's `slot`, a slot's keys, the
-- root's `dataset`, the keys of a dataset and those of an element
abbrev pub key_row : Key → KeyRowModel
key_row Node = row (codes "node") wanted.Table absent.Missing
key_row Address = row (codes "address") wanted.Address absent.Missing
key_row PdPort = row (codes "pd_port") (wanted.Number 1 65535) (absent.Default 17224)
key_row MdPort = row (codes "md_port") (wanted.Number 1 65535) (absent.Default 17225)
key_row OperatorPort = row (codes "operator_port") (wanted.Number 0 65535) (absent.Default 0)
key_row SpareControlPorts =
    row (codes "spare_control_ports") (wanted.Numbers 15 0 65535) absent.Empty
key_row ControlAddress = row (codes "control_address") wanted.Address absent.Own
key_row Groups = row (codes "groups") (wanted.Addresses 32 3758096384 4026531839) absent.Empty
key_row Ttl = row (codes "ttl") (wanted.Number 1 255) (absent.Default 64)
key_row Slot = row (codes "slot") (wanted.Tables 16) absent.Missing
key_row Publishers = row (codes "publishers") (wanted.Quota 256) (absent.Default 0)
key_row Subscriptions = row (codes "subscriptions") (wanted.Quota 256) (absent.Default 0)
key_row Requesters = row (codes "requesters") (wanted.Quota 256) (absent.Default 0)
key_row Listeners = row (codes "listeners") (wanted.Quota 256) (absent.Default 0)
key_row Callers = row (codes "callers") (wanted.Quota 256) (absent.Default 0)
key_row Repliers = row (codes "repliers") (wanted.Quota 256) (absent.Default 0)
key_row ControlPort = row (codes "control_port") (wanted.Number 0 65535) (absent.Default 0)
key_row Dataset = row (codes "dataset") (wanted.Tables 256) absent.Empty
key_row DatasetId = row (codes "id") (wanted.Identifier 31 4294967295) absent.Missing
key_row Elements = row (codes "element") (wanted.Tables 256) absent.Missing
key_row ElementType = row (codes "type") wanted.Kind absent.Missing
key_row ElementSize = row (codes "size") (wanted.Number 0 65535) (absent.Default 1)

-- a key as the file has it
abbrev pub key_text : Key → List ℕ
key_text key = (key_row key).text

-- what the value at a key has to be
abbrev pub wanted_by : Key → Wanted
wanted_by key = (key_row key).wanted

abbrev pub is_fault : Absent → Bool
is_fault absent.Missing = true
is_fault absent.Empty = false
is_fault absent.Own = false
is_fault (absent.Default n) = false

-- a key must be there
abbrev pub is_required : Key → Bool
is_required key = is_fault (key_row key).absent

abbrev pub default_number : Absent → ℕ
default_number absent.Missing = 0
default_number absent.Empty = 0
default_number absent.Own = 0
default_number (absent.Default n) = n

-- the default of a key that isn't there; 0 where no number is its default
abbrev pub default_of : Key → ℕ
default_of key = default_number (key_row key).absent

-- the keys of each table, in order
abbrev pub node_keys : List Key
node_keys =
    Address ∷ PdPort ∷ MdPort ∷ OperatorPort ∷ SpareControlPorts ∷ ControlAddress
    ∷ Groups ∷ Ttl ∷ []

abbrev pub quota_keys : List Key
quota_keys = Publishers ∷ Subscriptions ∷ Requesters ∷ Listeners ∷ Callers ∷ Repliers ∷ []

abbrev pub slot_keys : List Key
slot_keys =
    Publishers ∷ Subscriptions ∷ Requesters ∷ Listeners ∷ Callers ∷ Repliers ∷ ControlPort ∷ []

abbrev pub dataset_keys : List Key
dataset_keys = DatasetId ∷ Elements ∷ []

abbrev pub element_keys : List Key
element_keys = ElementType ∷ ElementSize ∷ []
