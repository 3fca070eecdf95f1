use Rattle.std.proofs.Common.{◌≡◌, ◌++◌, drop, map}
use Rattle.toml.specs.View.{view, table_view}
use Rattle.trdp_dataset.specs.declared.key.Key.TheVariants.{Elements}
use Rattle.trdp_dataset.specs.Positions.{items_at}
use Rattle.trdp_dataset.specs.Misfits.{element_from}
use Rattle.trdp_dataset.proofs.row.read_elements.Given as goal

abbrev pub invariant-loop-member : goal.invariant-loop-member
invariant-loop-member l = l.elements.items
    ++ map element_from (map view (drop l.member-index l.member-items))
    ≡ map element_from (items_at Elements (table_view l.dataset))
