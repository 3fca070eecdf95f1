-- A value that is handed over as an item.
use Rattle.std.specs.Prelude.{ℕ, List, [], Option, Some, None, unwrap_or, ◌==◌, if◌then◌else◌}
use Rattle.trdp_model.specs.Configs.{NodeSetup}
use Rattle.trdp_marshal.specs.declared.fault.MarshalFault.{MarshalFault}
use Rattle.trdp_marshal.specs.declared.fault.MarshalFault.TheVariants.{NoDataset as UnknownDataset}
use Rattle.trdp_marshal.specs.declared.fault.MarshalFault.TheVariants.{Shape as WrongShape}
use Rattle.trdp_marshal.specs.declared.fault.MarshalFault.TheVariants.{TooLong as TooManyBytes}
use Rattle.trdp_marshal.specs.declared.fault.MarshalFault.TheVariants.{OutOfMemory}
use Rattle.trdp_marshal.specs.Items.{ItemModel}
use Rattle.trdp_marshal.specs.Spelling.{spelling}
use Rattle.trdp_marshal.specs.Faults.{encode_fault}
use Rattle.trdp_model.specs.declared.any_object.AnyObject.{AnyObject}
use Rattle.trdp_model.specs.declared.any_object.AnyObject.TheVariants.{Publisher}
use Rattle.trdp_model.specs.declared.fault.Refusal.{Refusal}
use Rattle.trdp_model.specs.declared.fault.Refusal.TheVariants.{NoHandle, WrongKind, NoDataset}
use Rattle.trdp_model.specs.declared.fault.Refusal.TheVariants.{TooLong, Shape}
use Rattle.trdp_model.specs.Slots.{Entry, SlotState, Outcome, unchanged}
use Rattle.trdp_model.specs.Acts.{Act, refuses}
use Rattle.trdp_model.specs.Calls.{puts, at_object}

-- the refusal of an item that has no bytes, by what marshalling says
abbrev pub marshal_refusal : Option MarshalFault → Option Refusal
marshal_refusal None = None
marshal_refusal (Some UnknownDataset) = Some NoDataset
marshal_refusal (Some WrongShape) = Some Shape
marshal_refusal (Some TooManyBytes) = Some TooLong
marshal_refusal (Some OutOfMemory) = None

-- why an item is no value of an object: it is no publisher, its dataset is 0, or the item has no
-- bytes there
abbrev pub item_refusal_of : NodeSetup → ItemModel → AnyObject → Option Refusal
item_refusal_of setup item (Publisher p) =
    marshal_refusal (encode_fault setup.registry p.terms.dataset item)
item_refusal_of setup item object = Some WrongKind

-- first refusal of an item for the object of a handle
abbrev pub item_refusal : NodeSetup → ItemModel → Option Entry → Option Refusal
item_refusal setup item None = Some NoHandle
item_refusal setup item (Some entry) = item_refusal_of setup item entry.object

-- the bytes of an item as a value of an object
abbrev pub bytes_for : NodeSetup → ItemModel → AnyObject → List ℕ
bytes_for setup item (Publisher p) = unwrap_or (spelling setup.registry p.terms.dataset item) []
bytes_for setup item object = []

-- the bytes of an item as a value of the object of a handle
abbrev pub item_bytes : NodeSetup → ItemModel → Option Entry → List ℕ
item_bytes setup item None = []
item_bytes setup item (Some entry) = bytes_for setup item entry.object

-- the act of an object that is handed such an item
abbrev pub valued_unless : Option Refusal → NodeSetup → ItemModel → AnyObject → Act
valued_unless (Some refusal) setup item object = refuses object refusal
valued_unless None setup item object = puts setup (bytes_for setup item object) object

-- an item that has bytes is put as these bytes are
abbrev pub takes_item : NodeSetup → ItemModel → AnyObject → Act
takes_item setup item object =
    valued_unless (item_refusal_of setup item object) setup item object

-- effect of a value handed over as an item
abbrev pub valued : NodeSetup → SlotState → ℕ → ItemModel → Outcome
valued setup slot handle item = at_object slot handle (takes_item setup item)

-- the same at slot s, when it is slot r that hands the value over
abbrev pub valued_at : NodeSetup → ℕ → ℕ → SlotState → ℕ → ItemModel → Outcome
valued_at setup r s slot handle item =
    if r == s then valued setup slot handle item else unchanged slot
