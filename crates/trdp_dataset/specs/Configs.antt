-- What a configuration file means, as a function of the table that its text is.
use Rattle.std.specs.Prelude.{◌≡◌, ℕ, List, [], Option, Some, None, Result, Ok}
use Rattle.std.specs.Prelude.{Err, map, option_map, option_and_then, unwrap_or}
use Rattle.std.specs.List.{filter_map}
use Rattle.std.specs.Str.{IsUtf8}
use Rattle.toml.specs.Data.{Data, Members}
use Rattle.toml.specs.Parse.{parse_document}
use Rattle.toml.specs.View.{table_view}
use Rattle.std.specs.BTreeMap.{BTreeMap}
use Rattle.std.specs.Prelude.{String}
use Rattle.std.specs.declared.alloc.Global.{Global}
use Rattle.toml.specs.declared.value.Value.{Value}
use Rattle.trdp_dataset.specs.declared.element.Element.{Element}
use Rattle.trdp_dataset.specs.declared.element.ElementKind.{ElementKind}
use Rattle.trdp_dataset.specs.declared.key.Key.{Key}
use Rattle.trdp_dataset.specs.declared.key.Key.TheVariants.{Address, PdPort, MdPort, OperatorPort}
use Rattle.trdp_dataset.specs.declared.key.Key.TheVariants.{SpareControlPorts, ControlAddress}
use Rattle.trdp_dataset.specs.declared.key.Key.TheVariants.{Groups, Ttl, Slot, ControlPort}
use Rattle.trdp_dataset.specs.declared.key.Key.TheVariants.{Dataset, DatasetId}
use Rattle.trdp_dataset.specs.declared.key.Key.TheVariants.{Elements, ElementType, ElementSize}
use Rattle.trdp_dataset.specs.declared.fault.ConfigFault.{ConfigFault}
use Rattle.trdp_dataset.specs.declared.fault.ConfigFault.TheVariants.{Toml, OutOfMemory}
use Rattle.trdp_dataset.specs.Keys.{wanted_by, default_of, quota_keys}
use Rattle.trdp_dataset.specs.Values.{items_in, number_in, member_in, address_in}
use Rattle.trdp_dataset.specs.Values.{member_address_in, identifier_in, kind_in}
use Rattle.trdp_dataset.specs.Datasets.{DatasetModel}
use Rattle.trdp_dataset.specs.Positions.{value_at, tables_at, node_in}
use Rattle.trdp_dataset.specs.Positions.{dataset_positions, all_positions}
use Rattle.trdp_dataset.specs.Faults.{fault_in}

-- the number of a key whose value was looked for: the key's default where there is none in the
-- key's range
unfoldable pub number_of : Key → Option Data → ℕ
number_of key found =
    unwrap_or (option_and_then (number_in (wanted_by key)) found) (default_of key)

-- the numbers of a key whose array was looked for: its members that are in the key's range; there
-- are none where there is no array
unfoldable pub numbers_of : Key → Option Data → List ℕ
numbers_of key None = []
numbers_of key (Some d) = filter_map (member_in (wanted_by key)) (items_in d)

-- the addresses of a key whose array was looked for, in their order: its members that are in the
-- key's range; there are none where there is no array
unfoldable pub addresses_of : Key → Option Data → List ℕ
addresses_of key None = []
addresses_of key (Some d) = filter_map (member_address_in (wanted_by key)) (items_in d)

-- the number at a key of a table
abbrev pub natural_at : Key → Members → ℕ
natural_at key members = number_of key (value_at key members)

-- an element of that type, of the size that the table has, or 1
abbrev pub element_of : Members → ElementKind → Element
element_of members kind = record { kind = kind; size = natural_at ElementSize members }

-- the element that a table is, if its type is known
unfoldable pub element_in : Members → Option Element
element_in members =
    option_map (element_of members) (option_and_then kind_in (value_at ElementType members))

-- the elements of a dataset
unfoldable pub elements_in : Members → List Element
elements_in members = filter_map element_in (tables_at Elements members)

-- the dataset that a table is, if it has an identifier
unfoldable pub dataset_in : Members → Option DatasetModel
dataset_in members =
    option_map (λ id. record { id = id; elements = elements_in members })
    (option_and_then identifier_in (value_at DatasetId members))

-- the datasets of a file
unfoldable pub datasets_in : Members → List DatasetModel
datasets_in top = filter_map dataset_in (tables_at Dataset top)

-- a slot: its quotas of publishers, subscriptions, requesters, listeners, callers and repliers,
-- and its control port
pub record SlotModel : Type 0 where
  pub quotas : List ℕ
  pub control_port : ℕ

unfoldable pub quotas_in : Members → List ℕ
quotas_in members = map (λ key. natural_at key members) quota_keys

unfoldable pub slot_config : Members → SlotModel
slot_config members =
    record { quotas = quotas_in members; control_port = natural_at ControlPort members }

unfoldable pub slots_in : Members → List SlotModel
slots_in top = map slot_config (tables_at Slot top)

-- The configuration of a node. The spare control ports are those of the slots that are added while
-- the node runs, in their order. All control ports are at the control address. The groups are
-- addresses in the order of the file. A telegram may take at most `ttl` hops.
pub record ConfigModel : Type 0 where
  pub registry : List DatasetModel
  pub address : ℕ
  pub pd_port : ℕ
  pub md_port : ℕ
  pub operator_port : ℕ
  pub spare_control_ports : List ℕ
  pub control_address : ℕ
  pub groups : List ℕ
  pub ttl : ℕ
  pub slots : List SlotModel

-- what the table of the node has at a key
unfoldable pub node_value : Key → Members → Option Data
node_value key top = option_and_then (value_at key) (node_in top)

-- the address that the table of the node has at a key; this one where it has none
abbrev pub address_at : Key → ℕ → Members → ℕ
address_at key absent top =
    unwrap_or (option_and_then address_in (node_value key top)) absent

-- the spare control ports of a file
unfoldable pub spare_control_ports_in : Members → List ℕ
spare_control_ports_in top = numbers_of SpareControlPorts (node_value SpareControlPorts top)

-- the groups of a file
unfoldable pub groups_in : Members → List ℕ
groups_in top = addresses_of Groups (node_value Groups top)

-- the configuration that a file without a fault means
unfoldable pub config_in : Members → ConfigModel
config_in top = record {
  registry = datasets_in top;
  address = address_at Address 0 top;
  pd_port = number_of PdPort (node_value PdPort top);
  md_port = number_of MdPort (node_value MdPort top);
  operator_port = number_of OperatorPort (node_value OperatorPort top);
  spare_control_ports = spare_control_ports_in top;
  control_address = address_at ControlAddress (address_at Address 0 top) top;
  groups = groups_in top;
  ttl = number_of Ttl (node_value Ttl top);
  slots = slots_in top;
}

-- the fault of the datasets of a file
unfoldable pub registry_fault_of : Members → Option ConfigFault
registry_fault_of top = fault_in (dataset_positions top) (datasets_in top)

-- the fault of a file
unfoldable pub config_fault_of : Members → Option ConfigFault
config_fault_of top = fault_in (all_positions top) (datasets_in top)

abbrev pub unless : {A : Type 0} → Option ConfigFault → A → Result A ConfigFault
unless None x = Ok x
unless (Some fault) x = Err fault

-- the datasets of a file, or its fault
abbrev pub registry_of : Members → Result (List DatasetModel) ConfigFault
registry_of top = unless (registry_fault_of top) (datasets_in top)

-- the configuration of a file, or its fault
abbrev pub config_of : Members → Result ConfigModel ConfigFault
config_of top = unless (config_fault_of top) (config_in top)

-- what a call read from bytes is what they mean by a function of the table; Toml is the fault of
-- bytes that are no UTF-8 or no table, and any bytes may give OutOfMemory
abbrev pub ReadsToml : {A : Type 0} → (Members → Result A ConfigFault) → List ℕ
    → Result A ConfigFault
    → Type 0
ReadsToml meaning bytes (Err OutOfMemory) = Unit {0}
ReadsToml meaning bytes (Err Toml) = IsUtf8 bytes → parse_document bytes ≡ None
ReadsToml meaning bytes result = IsUtf8 bytes
    × ((top : Members) × (parse_document bytes ≡ Some top) × (result ≡ meaning top))

-- what a call parsed is the table of the bytes
abbrev pub Parses : List ℕ → Result (BTreeMap (String Global) Value) ConfigFault → Type 0
Parses bytes (Ok top) = IsUtf8 bytes × (parse_document bytes ≡ Some (table_view top))
Parses bytes (Err OutOfMemory) = Unit {0}
Parses bytes (Err Toml) = IsUtf8 bytes → parse_document bytes ≡ None
Parses bytes (Err _) = ⊥
