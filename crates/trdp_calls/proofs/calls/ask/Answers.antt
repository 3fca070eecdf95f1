use Rattle.std.proofs.Common.{◌∙◌, ap, not}
use Rattle.trdp_calls.proofs.CallLemmas.Acts.{deed_refused}
use Rattle.trdp_calls.proofs.calls.ask.Goals as goal

pub returns-then-is_none : goal.returns-then-is_none
returns-then-is_none c =
    deed_refused c.args.s c.args.handle _ c.args.store.now c.act.new.self c.args.out.now
    c.act.new.out c.push_plain_answer.new.self c.act.result c.requires.slot
    (c.is_none.ensures ∙ ap not c.if-is_none.true)
    c.act.ensures.found c.act.ensures.kept c.act.ensures.unrecorded
    c.push_plain_answer.ensures.records
