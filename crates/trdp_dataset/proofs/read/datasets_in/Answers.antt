use Rattle.std.proofs.Common.{◌∙◌, ap, sym, drop, ◌++◌, ◌+◌}
use Rattle.std.specs.List.{filter_map}
use Rattle.toml.specs.View.{view, table_view}
use Rattle.toml.specs.Data.{as_table}
use Rattle.std.specs.Prelude.{option_and_then}
use Rattle.trdp_dataset.specs.Seen.{tables_seen}
use Rattle.trdp_dataset.specs.Configs.{dataset_in, datasets_in}
use Rattle.trdp_dataset.proofs.FaultLemmas.{err_passes}
use Rattle.trdp_dataset.proofs.TwiceLemmas.{next_dataset, taken_up, taken_twice}
use Rattle.trdp_dataset.proofs.read.datasets_in.Goals as goal

pub returns-in_err-push_dataset-clause-fault : goal.returns-in_err-push_dataset-clause-fault
returns-in_err-push_dataset-clause-fault c =
    let xs = c.members_at-member-items.result.now in
    let x = c.member-item.result in
    let step =
    next_dataset xs c.loop-member.member-index x c.loop-member-test.true c.member-item.is in
    let h = taken_twice c.loop-member.datasets (option_and_then dataset_in (as_table (view x)))
    (filter_map dataset_in (tables_seen (drop (c.loop-member.member-index + 1) xs)))
    (datasets_in (table_view c.args.top.now)) c.in_err-push_dataset.field-0.0
    (sym (ap (λ ds. c.loop-member.datasets ++ ds) step)
    ∙ c.loop-member.invariant.rest) c.in_err-push_dataset.ensures.fault in
    err_passes c.from_residual.result c.in_err-push_dataset.field-0.0 _ c.from_residual.ensures.1 h

pub loop-member-preserved : goal.loop-member-preserved
loop-member-preserved c =
    let xs = c.members_at-member-items.result.now in
    let x = c.member-item.result in
    let step =
    next_dataset xs c.loop-member.member-index x c.loop-member-test.true c.member-item.is in
    let turn = taken_up c.loop-member.datasets
    c.push_dataset.new.datasets (option_and_then dataset_in (as_table (view x)))
    (filter_map dataset_in (tables_seen (drop (c.loop-member.member-index + 1) xs)))
    (datasets_in (table_view c.args.top.now))
    c.loop-member.invariant.once c.in_ok-push_dataset.ensures.added
    (sym (ap (λ ds. c.loop-member.datasets ++ ds) step) ∙ c.loop-member.invariant.rest) in
    record { once = turn.0; rest = turn.1 }
