-- The slots of a file without a fault, its spare control ports and its groups.
-- For `NodeConfig::from_toml`.
-- By: no position of such a file has a fault, so arrays are within bounds (`FilledLemmas`).
use Rattle.std.proofs.Common.{◌≡◌, ◌≤◌, List, ◌++◌, length, map, None}
use Rattle.toml.specs.Data.{Members}
use Rattle.trdp_dataset.specs.Datasets.{DatasetModel}
use Rattle.trdp_dataset.specs.Positions.{PositionModel, node_positions, slot_positions}
use Rattle.trdp_dataset.specs.Positions.{dataset_positions, all_positions}
use Rattle.trdp_dataset.specs.Faults.{fault_at, least_fault, dataset_fault, fault_in}
use Rattle.trdp_dataset.specs.Configs.{slots_in, spare_control_ports_in, groups_in}
use Rattle.trdp_dataset.specs.Groups.{AreGroups}
use Rattle.trdp_dataset.proofs.LeastLemmas.{neither, none_least}
use Rattle.trdp_dataset.proofs.FilledLemmas.{AreGood, good_front, good_back, some_slots, few_spare}
use Rattle.trdp_dataset.proofs.GroupLemmas.{sound_groups}

-- no position of a file without a fault has one
pub clean : (positions : List PositionModel) (ds : List DatasetModel)
    → fault_in positions ds ≡ None → AreGood positions
unfolding fault_in
clean positions ds e =
    none_least positions (neither (least_fault (map fault_at positions)) (dataset_fault ds) e).0

-- there are 1 to 16 slots
pub slots_counted : (top : Members) (ds : List DatasetModel) → fault_in (all_positions top) ds
    ≡ None → (1 ≤ length (slots_in top)) × (length (slots_in top) ≤ 16)
unfolding all_positions
slots_counted top ds e =
    some_slots top (good_back (node_positions top) (slot_positions top) (good_front (node_positions
    top ++ slot_positions top) (dataset_positions top) (clean (all_positions top) ds e)))

-- there are at most 15 spare control ports
pub spare_counted : (top : Members) (ds : List DatasetModel) → fault_in (all_positions top) ds
    ≡ None → length (spare_control_ports_in top) ≤ 15
unfolding all_positions
spare_counted top ds e =
    few_spare top (good_front (node_positions top) (slot_positions top) (good_front (node_positions
    top ++ slot_positions top) (dataset_positions top) (clean (all_positions top) ds e)))

-- the groups are at most 32 addresses of groups, none of them there twice
pub groups_sound : (top : Members) (ds : List DatasetModel)
    → fault_in (all_positions top) ds ≡ None → AreGroups (groups_in top)
unfolding all_positions
groups_sound top ds e =
    sound_groups top (good_front (node_positions top) (slot_positions top) (good_front
    (node_positions top ++ slot_positions top) (dataset_positions top)
    (clean (all_positions top) ds e)))
