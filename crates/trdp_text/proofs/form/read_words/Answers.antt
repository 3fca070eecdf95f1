use Rattle.std.proofs.Common.{◌≡◌, true, ap, sym, ◌∙◌, subst}
use Rattle.std.specs.Str.{bytes_eq}
use Rattle.trdp_text.specs.Forms.{call_word}
use Rattle.trdp_text.specs.Lines.{ReadsEvent}
use Rattle.trdp_text.specs.Words.{first_word}
use Rattle.trdp_text.specs.WordsLeft.{words_left}
use Rattle.trdp_text.proofs.ReadLemmas.Forms.{call_told}
use Rattle.trdp_text.proofs.form.read_words.Goals as goal

pub returns-then-is_word : goal.returns-then-is_word
returns-then-is_word c =
    let is_call : bytes_eq (first_word (words_left c.args.words)) call_word ≡ true =
    ap (λ word. bytes_eq word call_word) (sym c.first-first.ensures)
    ∙ sym c.is_word.ensures ∙ c.if-is_word.true in
    subst (λ meaning. ReadsEvent meaning c.read_call.result)
    (sym (call_told (words_left c.args.words) is_call)) c.read_call.ensures
