use Rattle.std.proofs.Common.{ap, sym, ◌∙◌, arith}
use Rattle.std.proofs.lemmas.List.{take_all}
use Rattle.trdp_head.specs.Checks.{with_check}
use Rattle.trdp_head.proofs.md.writing.header.Goals as goal

pub returns : goal.returns
returns c =
    sym (take_all 116 c.put_check.new.room (omega (arith, c.put_check.auto.room)))
    ∙ c.put_check.ensures.front ∙ ap with_check c.put_head.ensures.front
