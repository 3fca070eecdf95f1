use Rattle.std.proofs.Common.{◌≡◌, Ok, refl, ap, ◌∙◌, subst}
use Rattle.std.proofs.Common.{◌++◌}
use Rattle.toml.specs.View.{table_view}
use Rattle.trdp_dataset.specs.Positions.{PositionModel, node_positions}
use Rattle.trdp_dataset.specs.Positions.{slot_positions, all_positions}
use Rattle.trdp_dataset.specs.Seen.{positions_seen}
use Rattle.trdp_dataset.specs.Faults.{IsFaultOf, RefusedAs, fault_in}
use Rattle.trdp_dataset.specs.Configs.{datasets_in, config_in, config_fault_of, config_of}
use Rattle.trdp_dataset.proofs.FaultLemmas.{err_answers, err_alone}
use Rattle.std.proofs.Common.{List, None}
use Rattle.trdp_dataset.proofs.SlotNumberLemmas.{slots_counted, spare_counted, groups_sound}
use Rattle.trdp_dataset.proofs.MeaningLemmas.{reads}
use Rattle.trdp_dataset.proofs.config.NodeConfig.from_toml.Goals as goal

pub returns-in_err-registry : goal.returns-in_err-registry
unfolding config_fault_of
returns-in_err-registry c =
    let top = table_view c.in_ok-top.top in
    let ds = datasets_in top in
    let same = ap positions_seen c.deref.ensures.value ∙ c.in_ok-positions.ensures in
    let result = c.from_residual-in_err-registry.result in
    let fault = c.in_err-registry.field-0.0 in
    let expected = subst (λ positions. IsFaultOf fault (fault_in positions ds))
    same c.in_err-registry.ensures.answers in
    record {
      reads = reads config_of (all_positions top)
          ds (config_in top) c.args.bytes.now top result c.in_ok-top.ensures.0 c.in_ok-top.ensures.1
          refl (err_alone result (λ x. x ≡ config_in top) c.from_residual-in_err-registry.ensures.0)
          (err_answers result fault (fault_in (all_positions top) ds)
          c.from_residual-in_err-registry.ensures.1 expected);
    }

pub returns : goal.returns
unfolding config_fault_of
returns c =
    let top = table_view c.in_ok-top.top in
    let ds = datasets_in top in
    let same = ap positions_seen c.deref.ensures.value ∙ c.in_ok-positions.ensures in
    let none = subst (λ positions. RefusedAs (fault_in positions ds) (Ok c.in_ok-registry.registry))
    same c.in_ok-registry.ensures.answers in
    record {
      reads = reads config_of (all_positions top)
          ds (config_in top) c.args.bytes.now top (Ok c.config_in.result)
          c.in_ok-top.ensures.0 c.in_ok-top.ensures.1 refl c.config_in.ensures.value none;
    }

pub load-requires : goal.load-requires
unfolding all_positions
load-requires c =
    let top = table_view c.in_ok-top.top in
    record {
      covers = (
        node_positions top ++ slot_positions top,
        ap positions_seen c.deref.ensures.value ∙ c.in_ok-positions.ensures,
      );
    }

pub config_in-requires-clause-some : goal.config_in-requires-clause-some
unfolding all_positions
config_in-requires-clause-some c =
    let top = table_view c.in_ok-top.top in
    let same = ap positions_seen c.deref.ensures.value ∙ c.in_ok-positions.ensures in
    let none = subst (λ (positions : List PositionModel).
    fault_in positions (datasets_in top) ≡ None) same c.in_ok-registry.ensures.answers in
    (slots_counted top (datasets_in top) none).0

pub config_in-requires-clause-few : goal.config_in-requires-clause-few
unfolding all_positions
config_in-requires-clause-few c =
    let top = table_view c.in_ok-top.top in
    let same = ap positions_seen c.deref.ensures.value ∙ c.in_ok-positions.ensures in
    let none = subst (λ (positions : List PositionModel).
    fault_in positions (datasets_in top) ≡ None) same c.in_ok-registry.ensures.answers in
    (slots_counted top (datasets_in top) none).1

pub config_in-requires-clause-few_spare : goal.config_in-requires-clause-few_spare
unfolding all_positions
config_in-requires-clause-few_spare c =
    let top = table_view c.in_ok-top.top in
    let same = ap positions_seen c.deref.ensures.value ∙ c.in_ok-positions.ensures in
    let none = subst (λ (positions : List PositionModel).
    fault_in positions (datasets_in top) ≡ None) same c.in_ok-registry.ensures.answers in
    spare_counted top (datasets_in top) none

pub config_in-requires-clause-sound_groups : goal.config_in-requires-clause-sound_groups
unfolding all_positions
config_in-requires-clause-sound_groups c =
    let top = table_view c.in_ok-top.top in
    let same = ap positions_seen c.deref.ensures.value ∙ c.in_ok-positions.ensures in
    let none = subst (λ (positions : List PositionModel).
    fault_in positions (datasets_in top) ≡ None) same c.in_ok-registry.ensures.answers in
    groups_sound top (datasets_in top) none
