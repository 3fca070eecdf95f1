use Rattle.std.proofs.Common.{inr, ◌∙◌, ap, rules, ◌++◌}
use Rattle.trdp_engine.specs.NodeStates.{uncounted}
use Rattle.trdp_outbox.proofs.SlotOrderLemmas.Played.{node_played}
use Rattle.trdp_text.proofs.TextLemmas.Events.{text_played, text_refused}
use Rattle.trdp_script.proofs.PlayLemmas.Results.{all_err, all_ok, on_err, on_ok}
use Rattle.trdp_text.proofs.TextLemmas.SomeText.{fault_told}
use Rattle.trdp_script.proofs.play.play.Goals as goal

pub returns-in-Ok-clause-node : goal.returns-in-Ok-clause-node
returns-in-Ok-clause-node c =
    all_ok c.print_records.result
    (node_played (uncounted c.args.node.now) (uncounted c.step.new.self) _ _ _ c.in-Ok.ensures.fault
    c.step.ensures.config c.in-Ok.ensures.globals c.in-Ok.ensures.steps)

pub returns-in-Ok-clause-text : goal.returns-in-Ok-clause-text
returns-in-Ok-clause-text c =
    let played = text_played (uncounted c.args.node.now) (uncounted c.step.new.self) _ _ _
    c.in-Ok.ensures.fault c.clear.ensures.records c.in-Ok.ensures.steps in
    on_ok c.print_records.result (λ told. told
    ∙ ap (λ l. c.args.text.now.items ++ l) played) c.print_records.ensures.ok

pub returns-in-Ok-clause-wanting : goal.returns-in-Ok-clause-wanting
returns-in-Ok-clause-wanting c =
    let played = text_played (uncounted c.args.node.now) (uncounted c.step.new.self) _ _ _
    c.in-Ok.ensures.fault c.clear.ensures.records c.in-Ok.ensures.steps in
    on_err c.print_records.result (λ some. inr (λ none. some (played ∙ none)))
    c.print_records.ensures.some

pub returns-in-Err-clause-wanting : goal.returns-in-Err-clause-wanting
returns-in-Err-clause-wanting c =
    all_err c.print_fault.result (inr (λ none. fault_told c.in-Err.fault
    (text_refused (uncounted c.args.node.now) _ _ c.in-Err.fault c.in-Err.ensures.fault
    (search rules) ∙ none)))
