-- Whether an object to which something is done stays.
use Rattle.std.specs.Prelude.{Option, Some, None}
use Rattle.trdp_model.specs.declared.any_object.AnyObject.{AnyObject}
use Rattle.trdp_store.specs.declared.deed.Left.{Left}
use Rattle.trdp_store.specs.declared.deed.Left.TheVariants.{Stays, Ended}

-- what is left of an object that stays or ended
abbrev pub object_left : Left → AnyObject → Option AnyObject
object_left Stays object = Some object
object_left Ended object = None
