use Rattle.std.proofs.Common.{List, [], refl, ap, ◌∙◌, subst}
use Rattle.toml.specs.View.{table_view}
use Rattle.trdp_dataset.specs.Positions.{PositionModel, dataset_positions}
use Rattle.trdp_dataset.specs.Seen.{positions_seen}
use Rattle.trdp_dataset.specs.Faults.{RefusedAs, fault_in}
use Rattle.trdp_dataset.specs.Configs.{datasets_in, registry_fault_of, registry_of}
use Rattle.trdp_dataset.proofs.MeaningLemmas.{reads}
use Rattle.trdp_dataset.proofs.registry.Registry.from_toml.Goals as goal

pub returns : goal.returns
unfolding registry_fault_of
returns c =
    let top = table_view c.in_ok-top.top in
    let ds = datasets_in top in
    let same = ap positions_seen c.deref.ensures.value ∙ c.in_ok-positions.ensures in
    record {
      reads = reads registry_of (dataset_positions top) ds ds c.args.bytes.now
          top c.load.result c.in_ok-top.ensures.0 c.in_ok-top.ensures.1 refl c.load.ensures.value
          (subst (λ (positions : List PositionModel). RefusedAs (fault_in positions ds)
          c.load.result)
          same c.load.ensures.answers);
    }

pub load-requires : goal.load-requires
load-requires c =
    record { covers = ([], ap positions_seen c.deref.ensures.value ∙ c.in_ok-positions.ensures) }
