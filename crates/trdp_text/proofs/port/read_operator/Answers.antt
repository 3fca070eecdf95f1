use Rattle.std.proofs.Common.{ap, ◌∙◌, ◌++◌, take}
use Rattle.trdp_text.specs.Words.{words_of}
use Rattle.trdp_text.specs.WordsLeft.{words_at}
use Rattle.trdp_text.proofs.ReadLemmas.OperatorLines.{line_says}
use Rattle.trdp_text.proofs.port.read_operator.Goals as goal

pub returns-in-Ok-clause-line : goal.returns-in-Ok-clause-line
returns-in-Ok-clause-line c =
    let some = rw c.is_skipped.ensures at c.if-is_skipped.false in
    let cut = c.of.ensures ∙ c.cut_words.ensures
    ∙ ap (λ items. take 15 (words_at items ++ words_of c.without_end-text.result.now))
    c.new-words.ensures in
    line_says c.args.bytes.now c.without_end-text.result.now _ _ c.without_end-text.ensures
    c.if-text-gt-LINE_MAX.false some cut c.in-Ok.ensures.line

pub returns-in-Err-clause-fault : goal.returns-in-Err-clause-fault
returns-in-Err-clause-fault c =
    let some = rw c.is_skipped.ensures at c.if-is_skipped.false in
    let cut = c.of.ensures ∙ c.cut_words.ensures
    ∙ ap (λ items. take 15 (words_at items ++ words_of c.without_end-text.result.now))
    c.new-words.ensures in
    line_says c.args.bytes.now c.without_end-text.result.now _ _ c.without_end-text.ensures
    c.if-text-gt-LINE_MAX.false some cut c.in-Err.ensures.fault
