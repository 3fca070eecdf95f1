-- The form of a call, by the call's own word.
use Rattle.std.specs.Prelude.{ℕ, List, [], ◌∷◌, Option}
use Rattle.trdp_text.specs.Forms.{LineForm, call_word, forms, has_keywords}
use Rattle.trdp_text.specs.Lines.{form_among}
use Rattle.trdp_text.specs.Words.{first_word, other_words}

-- the form that `call`, a slot and this word select
unfoldable pub form_of_call : List ℕ → Option LineForm
unfolding form_among forms has_keywords first_word other_words
form_of_call word = form_among forms (call_word ∷ [] ∷ word ∷ [])
