use Rattle.std.proofs.Common.{ap, ◌∙◌, ◌++◌, arith, length, length-append}
use Rattle.std.proofs.lemmas.Fmt.{length-decimal-le}
use Rattle.trdp_base.specs.NumberText.{text_of_number}
use Rattle.trdp_daemon.proofs.question.put_small.Goals as goal

pub returns-clause-len : goal.returns-clause-len
returns-clause-len c =
    let digits = length-decimal-le 3 c.args.number (omega arith) (omega (arith, c.requires.small))
    (omega (arith, c.requires.small)) in
    let all = ap length (c.put_number.ensures.items
    ∙ ap (λ n. c.args.text.now.items ++ text_of_number n) c.from.ensures)
    ∙ length-append c.args.text.now.items (text_of_number c.args.number) in
    omega (arith, digits, all)
