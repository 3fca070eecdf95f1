use Rattle.std.proofs.Common.{◌≡◌, ◌++◌, take}
use Rattle.std.specs.Prelude.{map, drop}
use Rattle.trdp_md.specs.Answers.{confirmed_if}
use Rattle.trdp_md.proofs.answers.end_awaiting.Given as goal

-- the answers before the index are confirmed, those from it on are as they were
abbrev pub invariant-loop-answer : goal.invariant-loop-answer
invariant-loop-answer l = l.answers
    ≡ map (confirmed_if l.place) (take l.answer-index l.fn.answers)
    ++ drop l.answer-index l.fn.answers
