-- How far records were read, slot by slot.
use Rattle.std.specs.Prelude.{◌≡◌, ◌++◌, List, length}
use Rattle.trdp_model.specs.Records.{RecordModel}
use Rattle.trdp_outbox.specs.SlotOrder.{by_slot}
use Rattle.trdp_outbox.specs.SlotWalk.{left_of}
use Rattle.trdp_node.specs.declared.cursor.Cursor.{Cursor}

-- so many records come first slot by slot, and then those that are left of the walk
pub record IsReadTo (records : List RecordModel) (cursor : Cursor) : Type 0 where
  pub first : List RecordModel
  pub count : length first ≡ cursor.passed
  pub rest : by_slot records ≡ first ++ left_of cursor.rising cursor.slot cursor.at records
