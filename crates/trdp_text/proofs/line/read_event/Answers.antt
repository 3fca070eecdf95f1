use Rattle.std.proofs.Common.{◌≡◌, true, ap, ◌∙◌, rules, take, ◌++◌, Ok, Err, Some}
use Rattle.trdp_text.specs.Forms.{forms}
use Rattle.trdp_text.specs.Words.{words_of}
use Rattle.trdp_text.specs.WordsLeft.{words_at}
use Rattle.trdp_text.proofs.ReadLemmas.Forms.{line_read, few_parts}
use Rattle.trdp_text.proofs.line.read_event.Goals as goal

pub returns-in-Ok : goal.returns-in-Ok
returns-in-Ok c =
    let told : c.in_ok-cut_line.field-0 ≡ true = search rules in
    let cut = c.of.ensures ∙ c.in_ok-cut_line.ensures.words told
    ∙ ap (λ items. take 15 (words_at items ++ words_of c.args.text.now)) c.new-words.ensures in
    record {
      meaning = line_read forms c.args.text.now _ (Ok (Some c.in-Ok.event)) few_parts
          (c.in_ok-cut_line.ensures.said forms told) cut c.in-Ok.ensures;
    }

pub returns-in-Err : goal.returns-in-Err
returns-in-Err c =
    let told : c.in_ok-cut_line.field-0 ≡ true = search rules in
    let cut = c.of.ensures ∙ c.in_ok-cut_line.ensures.words told
    ∙ ap (λ items. take 15 (words_at items ++ words_of c.args.text.now)) c.new-words.ensures in
    record {
      meaning = line_read forms c.args.text.now _ (Err c.in-Err.fault) few_parts
          (c.in_ok-cut_line.ensures.said forms told) cut c.in-Err.ensures;
    }
