use Rattle.std.proofs.Common.{arith}
use Rattle.std.proofs.lemmas.List.{get_or_default}
use Rattle.std.proofs.lemmas.List.Edits.{map_over_more}
use Rattle.trdp_md.specs.Answers.{confirmed_if}
use Rattle.trdp_md.proofs.answers.end_awaiting.Goals as goal

pub loop-answer-preserved : goal.loop-answer-preserved
loop-answer-preserved c =
    rw (c.confirmed_if.ensures)
    (map_over_more
    (confirmed_if c.args.place)
    c.args.answers.now
    c.loop-answer.answers
    c.loop-answer.answer-index
    _
    c.loop-answer-test.true
    c.loop-answer.invariant
    (get_or_default c.loop-answer.answers c.loop-answer.answer-index _ _ (omega arith)))
