use Rattle.std.proofs.Common.{◌≡◌, take}
use Rattle.std.specs.Prelude.{map}
use Rattle.trdp_marshal.specs.Items.{model_of}
use Rattle.trdp_marshal.proofs.item.Item.+try_clone.Given as goal

abbrev pub invariant-loop-item : goal.invariant-loop-item
invariant-loop-item l = map model_of l.copies.items ≡ map model_of (take l.item-index l.item-items)
