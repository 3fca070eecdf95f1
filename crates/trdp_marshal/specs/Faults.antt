-- Which fault is returned.
use Rattle.std.specs.Prelude.{◌≡◌, ◌==◌, ◌&&◌, not, Bool, ℕ, List, Option, Some, None}
use Rattle.std.specs.Prelude.{Result, Ok, Err, is_some, if◌then◌else◌, nat_lt, length}
use Rattle.trdp_dataset.specs.Datasets.{DatasetModel, is_known}
use Rattle.trdp_dataset.specs.Limits.{value_limit}
use Rattle.trdp_marshal.specs.declared.fault.MarshalFault.{MarshalFault}
use Rattle.trdp_marshal.specs.declared.fault.MarshalFault.TheVariants.{NoDataset, Shape}
use Rattle.trdp_marshal.specs.declared.fault.MarshalFault.TheVariants.{TooLong, OutOfMemory}
use Rattle.trdp_marshal.specs.Items.{ItemModel}
use Rattle.trdp_marshal.specs.Reading.{reading}
use Rattle.trdp_marshal.specs.Spelling.{spelling}

-- a dataset whose payloads are items: one that is known, and not dataset 0, of which any bytes
-- are a payload
abbrev pub has_items : List DatasetModel → ℕ → Bool
has_items registry id = not (id == 0) && is_known registry id

-- why bytes have no item: the dataset has none, or they are those of none
unfoldable pub decode_fault : List DatasetModel → ℕ → List ℕ → Option MarshalFault
decode_fault registry id bytes =
    if has_items registry id
    then (if is_some (reading registry id bytes) then None else Some Shape)
    else Some NoDataset

-- why bytes are not sent: there are none, or more than a message carries
abbrev pub length_fault : Option (List ℕ) → Option MarshalFault
length_fault None = Some Shape
length_fault (Some bytes) = if nat_lt value_limit (length bytes) then Some TooLong else None

-- why an item is not sent: the dataset has no items, or the item has no bytes or too many
unfoldable pub encode_fault : List DatasetModel → ℕ → ItemModel → Option MarshalFault
encode_fault registry id item =
    if has_items registry id then length_fault (spelling registry id item) else Some NoDataset

-- this fault where it is expected, and OutOfMemory where none is
abbrev pub IsMarshalFault : MarshalFault → Option MarshalFault → Type 0
IsMarshalFault OutOfMemory expected = expected ≡ None
IsMarshalFault fault expected = expected ≡ Some fault

-- a call succeeds or runs out of memory exactly where no fault is expected, and else returns the
-- one that is
abbrev pub FailsAs : {X : Type 0} → Result X MarshalFault → Option MarshalFault → Type 0
FailsAs (Ok x) expected = expected ≡ None
FailsAs (Err fault) expected = IsMarshalFault fault expected

-- a part of a call that returns this fault had nothing to return, unless memory ran out
abbrev pub Fails : {Y : Type 0} → MarshalFault → Option Y → Type 0
Fails NoDataset found = ⊥
Fails Shape found = found ≡ None
Fails TooLong found = ⊥
Fails OutOfMemory found = Unit {0}

-- what a part of a call returns, seen by view, is what was there, unless memory ran out
abbrev pub GivesFound : {X Y : Type 0} → (X → Y) → Result X MarshalFault → Option Y → Type 0
GivesFound view (Ok x) found = found ≡ Some (view x)
GivesFound view (Err fault) found = Fails fault found
