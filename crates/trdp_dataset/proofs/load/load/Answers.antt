use Rattle.std.proofs.Common.{◌≡◌, List, sym, ap, ◌∙◌, subst, length, ◌≤◌, nat_le, true}
use Rattle.std.specs.List.{list_all}
use Rattle.toml.specs.View.{table_view}
use Rattle.trdp_dataset.specs.Datasets.{DatasetModel}
use Rattle.trdp_dataset.specs.Positions.{dataset_positions}
use Rattle.trdp_dataset.specs.Seen.{positions_seen}
use Rattle.trdp_dataset.specs.Faults.{IsFaultOf, before_datasets, fit_fault, twice_id_in}
use Rattle.trdp_dataset.specs.Configs.{datasets_in}
use Rattle.trdp_dataset.proofs.FaultLemmas.{err_answers, fault_comes}
use Rattle.trdp_dataset.proofs.LeastLemmas.{none_least}
use Rattle.trdp_dataset.proofs.LoadLemmas.{position_stops, twice_stops, fit_stops, least_left}
use Rattle.trdp_dataset.proofs.SoundLemmas.{sound}
use Rattle.trdp_dataset.proofs.FilledLemmas.{AreGood, good_back, is_filled}
use Rattle.trdp_dataset.proofs.FilledLemmas.{all_above, all_filled, all_few}
use Rattle.trdp_dataset.proofs.load.load.Goals as goal

pub returns-in-Some-clause-answers : goal.returns-in-Some-clause-answers
returns-in-Some-clause-answers c =
    position_stops (positions_seen c.args.positions.now)
    (datasets_in (table_view c.args.top.now)) c.in-Some.fault
    (c.in-Some.ensures.value ∙ ap before_datasets c.least_fault-least.ensures.value)

pub returns-in_err-datasets-clause-answers : goal.returns-in_err-datasets-clause-answers
returns-in_err-datasets-clause-answers c =
    let fault = c.in_err-datasets.field-0.0 in
    err_answers c.from_residual.result fault _ c.from_residual.ensures.1
    (twice_stops (positions_seen c.args.positions.now) (datasets_in (table_view c.args.top.now))
    fault (c.in-None.ensures.value ∙ ap before_datasets c.least_fault-least.ensures.value)
    c.in_err-datasets.ensures.fault)

pub returns-in_err-zero_sizes-clause-answers : goal.returns-in_err-zero_sizes-clause-answers
returns-in_err-zero_sizes-clause-answers c =
    let fault = c.in_err-zero_sizes.field-0.0 in
    err_answers c.from_residual-in_err-zero_sizes.result
    fault _ c.from_residual-in_err-zero_sizes.ensures.1
    (fit_stops (positions_seen c.args.positions.now) (datasets_in (table_view c.args.top.now))
    fault (c.in-None.ensures.value ∙ ap before_datasets c.least_fault-least.ensures.value)
    c.in_ok-datasets.ensures.once
    (subst (λ (o : List DatasetModel). IsFaultOf fault (fit_fault o))
    c.in_ok-datasets.ensures.value c.in_err-zero_sizes.ensures.answers))

pub new-requires-clause-sound : goal.new-requires-clause-sound
new-requires-clause-sound c =
    let top = table_view c.args.top.now in
    let all : AreGood (positions_seen c.args.positions.now) =
    none_least (positions_seen c.args.positions.now) (sym c.in-None-least.ensures.value) in
    let own = good_back c.requires.covers.0 (dataset_positions top)
    (subst AreGood c.requires.covers.1 all) in
    let same = sym c.in_ok-datasets.ensures.value in
    sound c.in_ok-datasets.datasets (ap twice_id_in c.in_ok-datasets.ensures.value
    ∙ c.in_ok-datasets.ensures.once) c.in_ok-zero_sizes.ensures.answers
    (subst (λ (ds : List DatasetModel). length ds ≤ 256) same (all_few top own))
    (subst (λ (ds : List DatasetModel). list_all (λ (m : DatasetModel). nat_le 31 m.id) ds
    ≡ true) same (all_above top))
    (subst (λ (ds : List DatasetModel). list_all (λ (m : DatasetModel). is_filled m.elements) ds
    ≡ true) same (all_filled top own))

pub returns-in-None-least-clause-answers : goal.returns-in-None-least-clause-answers
returns-in-None-least-clause-answers c =
    least_left (positions_seen c.args.positions.now)
    (datasets_in (table_view c.args.top.now)) c.in_ok-datasets.ensures.once
    (ap fit_fault (sym c.in_ok-datasets.ensures.value) ∙ c.in_ok-zero_sizes.ensures.answers)
    ∙ (sym c.in-None-least.ensures.value)

pub returns-in-Some-least-clause-answers : goal.returns-in-Some-least-clause-answers
returns-in-Some-least-clause-answers c =
    fault_comes c.in-Some-least.fault _
    (least_left (positions_seen c.args.positions.now)
    (datasets_in (table_view c.args.top.now)) c.in_ok-datasets.ensures.once
    (ap fit_fault (sym c.in_ok-datasets.ensures.value) ∙ c.in_ok-zero_sizes.ensures.answers)
    ∙ (sym c.in-Some-least.ensures.value))
