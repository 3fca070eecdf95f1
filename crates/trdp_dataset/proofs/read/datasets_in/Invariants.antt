use Rattle.std.proofs.Common.{◌≡◌, ◌++◌, drop, false}
use Rattle.std.specs.List.{filter_map}
use Rattle.toml.specs.View.{table_view}
use Rattle.trdp_dataset.specs.Seen.{tables_seen}
use Rattle.trdp_dataset.specs.Faults.{has_twice}
use Rattle.trdp_dataset.specs.Configs.{dataset_in, datasets_in}
use Rattle.trdp_dataset.proofs.read.datasets_in.Given as goal

abbrev pub invariant-loop-member : goal.invariant-loop-member
invariant-loop-member l =
    record {
      once : has_twice l.datasets ≡ false;
      rest : l.datasets ++ filter_map dataset_in
          (tables_seen (drop l.member-index l.member-items)) ≡ datasets_in (table_view l.top);
    }
