use Rattle.std.proofs.Common.{◌≡◌, ◌++◌, drop}
use Rattle.std.specs.List.{filter_map}
use Rattle.toml.specs.View.{table_view}
use Rattle.trdp_dataset.specs.Seen.{tables_seen}
use Rattle.trdp_dataset.specs.Configs.{element_in, elements_in}
use Rattle.trdp_dataset.proofs.read.elements_in.Given as goal

abbrev pub invariant-loop-member : goal.invariant-loop-member
invariant-loop-member l = l.elements.items ++ filter_map element_in
    (tables_seen (drop l.member-index l.member-items)) ≡ elements_in (table_view l.dataset)
