-- The positions of a configuration file, at which a key is present or missing, in the order in
-- which faults are looked for.
use Rattle.std.specs.Prelude.{List, [], ◌∷◌, ◌++◌, Option, Some, None, map, option_and_then}
use Rattle.std.specs.List.{filter_map, flat_map}
use Rattle.toml.specs.Data.{Data, Members, get_member, as_table}
use Rattle.trdp_dataset.specs.declared.key.Key.{Key}
use Rattle.trdp_dataset.specs.declared.key.Key.TheVariants.{Node, Slot, Dataset, Elements}
use Rattle.trdp_dataset.specs.Keys.{key_text, node_keys, slot_keys, dataset_keys, element_keys}
use Rattle.trdp_dataset.specs.Values.{items_in}

-- a key, and what the file has there
pub record PositionModel : Type 0 where
  pub key : Key
  pub found : Option Data

-- what a table has at a key
abbrev pub value_at : Key → Members → Option Data
value_at key members = get_member (key_text key) members

abbrev pub items_found : Option Data → List Data
items_found None = []
items_found (Some d) = items_in d

-- the members of the array at a key
unfoldable pub items_at : Key → Members → List Data
items_at key members = items_found (value_at key members)

-- the tables among the members of an array; there are none where there is no array
abbrev pub tables_in : Option Data → List Members
tables_in None = []
tables_in (Some d) = filter_map as_table (items_in d)

-- the tables of the array at a key
unfoldable pub tables_at : Key → Members → List Members
tables_at key members = tables_in (value_at key members)

-- the position of a key in a table
abbrev pub position_at : Members → Key → PositionModel
position_at members key = record { key = key; found = value_at key members }

-- the positions of keys in a table
unfoldable pub positions_at : List Key → Members → List PositionModel
positions_at keys members = map (position_at members) keys

-- the positions of keys in tables, table by table
unfoldable pub positions_of_all : List Key → List Members → List PositionModel
positions_of_all keys tables = flat_map (positions_at keys) tables

-- the table of the node, if there is one
abbrev pub node_in : Members → Option Members
node_in top = option_and_then as_table (value_at Node top)

abbrev pub positions_of_node : Option Members → List PositionModel
positions_of_node None = []
positions_of_node (Some node) = positions_at node_keys node

-- the positions of the node
unfoldable pub node_positions : Members → List PositionModel
node_positions top = positions_at (Node ∷ []) top ++ positions_of_node (node_in top)

-- the positions of the slots
unfoldable pub slot_positions : Members → List PositionModel
slot_positions top = positions_at (Slot ∷ []) top
    ++ positions_of_all slot_keys (tables_at Slot top)

-- the positions of elements, dataset by dataset
unfoldable pub element_positions : List Members → List PositionModel
element_positions datasets =
    flat_map (λ dataset. positions_of_all element_keys (tables_at Elements dataset)) datasets

-- the positions of the datasets, and then those of all elements
unfoldable pub dataset_positions : Members → List PositionModel
dataset_positions top =
    let datasets = tables_at Dataset top in
    positions_at (Dataset ∷ []) top ++ positions_of_all dataset_keys datasets
    ++ element_positions datasets

-- all positions of a file
unfoldable pub all_positions : Members → List PositionModel
all_positions top = node_positions top ++ slot_positions top ++ dataset_positions top
