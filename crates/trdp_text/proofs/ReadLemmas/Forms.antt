-- Facts on the forms of a line.
-- For `read_words`, `read_event`, `read_control_event` and `read_operator`.
-- By: the keywords of a form, and the number of its words, show in the first 15 words of a line.
use Rattle.std.proofs.Common.{◌≡◌, ℕ, zero, suc, ◌<◌, ◌≤◌, ◌&&◌, Bool, true, false, List, []}
use Rattle.std.proofs.Common.{◌∷◌, length, take, Some, Result, refl, ap, arith, subst}
use Rattle.std.proofs.Common.{nat_le, nat_lt, if◌then◌else◌, Option}
use Rattle.std.specs.List.{find, list_all}
use Rattle.std.specs.Str.{bytes_eq}
use Rattle.std.proofs.lemmas.Bool.{and_right, and_parts}
use Rattle.std.proofs.lemmas.Bool.Decides.{nat_tests}
use Rattle.std.proofs.lemmas.List.{length-take-le, take_all}
use Rattle.std.proofs.lemmas.Slice.Eq.{bytes_eq-Decides}
use Rattle.trdp_text.specs.FormWords.{form_of_call}
use Rattle.trdp_text.specs.Forms.{call_word, forms, has_keywords, LineForm, Part, Keyword}
use Rattle.trdp_text.specs.Forms.{NumberField, LastNumberField, AnyOrNumberField, AddressField}
use Rattle.trdp_text.specs.Forms.{PlaceField}
use Rattle.trdp_text.specs.Forms.{BytesField, UriField, StatusField, SessionField, ChoiceField}
use Rattle.trdp_text.specs.Lines.{form_says, line_among, may_have, say_among}
use Rattle.trdp_text.specs.Lines.{words_say, ReadsOrSkips}
use Rattle.trdp_text.specs.PortLines.{operator_forms}
use Rattle.trdp_text.specs.Words.{first_word, other_words, third_word, words_of}
use Rattle.trdp_text.specs.declared.fault.LineFault.{LineFault}
use Rattle.trdp_model.specs.declared.event.Event.{Event}

-- the call's own word selects the form of a call
pub call_told : (words : List (List ℕ)) → bytes_eq (first_word words) call_word ≡ true
    → say_among forms words ≡ words_say (form_of_call (third_word words)) words
unfolding say_among form_of_call
call_told words is = rw ((bytes_eq-Decides (first_word words) call_word).0 is) refl

-- keywords are looked for among as many words as there are parts
keywords_among : (parts : List Part) (n : ℕ) (words : List (List ℕ)) → length parts ≤ n
    → has_keywords parts (take n words) ≡ has_keywords parts words
unfolding has_keywords first_word other_words
keywords_among [] n words few = refl
keywords_among (part ∷ parts) zero words few = absurd (omega (arith, few))
keywords_among (part ∷ parts) (suc n) [] few = refl
keywords_among (Keyword word ∷ parts) (suc n) (first ∷ words) few =
    ap (λ b. bytes_eq first word && b) (keywords_among parts n words (omega (arith, few)))
keywords_among (NumberField max ∷ parts) (suc n) (first ∷ words) few =
    keywords_among parts n words (omega (arith, few))
keywords_among (LastNumberField max ∷ parts) (suc n) (first ∷ words) few =
    keywords_among parts n words (omega (arith, few))
keywords_among (AnyOrNumberField max ∷ parts) (suc n) (first ∷ words) few =
    keywords_among parts n words (omega (arith, few))
keywords_among (AddressField ∷ parts) (suc n) (first ∷ words) few =
    keywords_among parts n words (omega (arith, few))
keywords_among (PlaceField ∷ parts) (suc n) (first ∷ words) few =
    keywords_among parts n words (omega (arith, few))
keywords_among (BytesField ∷ parts) (suc n) (first ∷ words) few =
    keywords_among parts n words (omega (arith, few))
keywords_among (UriField ∷ parts) (suc n) (first ∷ words) few =
    keywords_among parts n words (omega (arith, few))
keywords_among (StatusField ∷ parts) (suc n) (first ∷ words) few =
    keywords_among parts n words (omega (arith, few))
keywords_among (SessionField ∷ parts) (suc n) (first ∷ words) few =
    keywords_among parts n words (omega (arith, few))
keywords_among (ChoiceField one other ∷ parts) (suc n) (first ∷ words) few =
    keywords_among parts n words (omega (arith, few))

-- a form says the same of the first words, if these are more than it has parts
same_says : (form : LineForm) (n : ℕ) (words : List (List ℕ)) → length form.parts < n
    → form_says form (take n words) ≡ form_says form words
unfolding form_says
same_says form n words few = by_length (nat_le (length words) n) refl
  where
    by_length : (fits : Bool) → nat_le (length words) n ≡ fits
        → form_says form (take n words) ≡ form_says form words
    by_length true fits =
        let within : length words ≤ n = grind (arith, nat_tests, fits) in
        rw (take_all n words within) refl
    by_length false more =
        let past : n < length words = grind (arith, nat_tests, more) in
        let len : length (take n words) ≡ n = length-take-le n words (omega (arith, past)) in
        let first : nat_le (length (take n words)) (length form.parts) ≡ false =
        grind (arith, nat_tests, len, few) in
        let all : nat_le (length words) (length form.parts) ≡ false =
        grind (arith, nat_tests, past, few) in
        let not_cut : may_have form.parts (length (take n words)) ≡ false = and_right _ _ first in
        let not_all : may_have form.parts (length words) ≡ false = and_right _ _ all in
        rw (not_cut, not_all) refl

-- no form among these has that many parts
abbrev pub have_fewer : ℕ → List LineForm → Bool
have_fewer n known = list_all (λ form. nat_lt (length form.parts) n) known

-- forms say the same of the first words, if these are more than any of them has parts
pub forms_say : (known : List LineForm) (n : ℕ) (words : List (List ℕ)) → have_fewer n known ≡ true
    → say_among known (take n words) ≡ say_among known words
unfolding say_among
forms_say [] n words few = refl
forms_say (form ∷ known) n words few =
    let both = and_parts (nat_lt (length form.parts) n) (have_fewer n known) few in
    let fewer : length form.parts < n = grind (arith, nat_tests, both.0) in
    let same = keywords_among form.parts n words (omega (arith, fewer)) in
    rw same (by_first (forms_say known n words both.1) fewer (has_keywords form.parts words))
  where
    by_first : say_among known (take n words) ≡ say_among known words → length form.parts < n
        → (told : Bool) → words_say (if told then Some form
        else find (λ it. has_keywords it.parts (take n words)) known) (take n words)
        ≡ words_say (if told then Some form
        else find (λ it. has_keywords it.parts words) known) words
    by_first others fewer true = same_says form n words fewer
    by_first others fewer false = others

-- all forms have fewer than 15
pub few_parts : have_fewer 15 forms ≡ true
unfolding forms
few_parts = refl

-- those of the operator too
pub operators_few_parts : have_fewer 15 operator_forms ≡ true
unfolding operator_forms
operators_few_parts = refl

-- what was read of the first 15 words of a line is what all words say
pub words_read : (known : List LineForm) (line words : List (List ℕ))
    (r : Result (Option Event) LineFault) → have_fewer 15 known ≡ true → words ≡ take 15 line
    → ReadsOrSkips (say_among known words) r
    → ReadsOrSkips (say_among known line) r
words_read known line words r few cut reads =
    subst (λ meaning. ReadsOrSkips meaning r) (forms_say known 15 line few)
    (subst (λ ws. ReadsOrSkips (say_among known ws) r) cut reads)

-- the same of a line whose words say it
pub line_read : (known : List LineForm) (text : List ℕ) (words : List (List ℕ))
    (r : Result (Option Event) LineFault) → have_fewer 15 known ≡ true
    → line_among known text ≡ say_among known (words_of text) → words ≡ take 15 (words_of text)
    → ReadsOrSkips (say_among known words) r → ReadsOrSkips (line_among known text) r
line_read known text words r few said cut reads =
    rw said (words_read known (words_of text) words r few cut reads)
