-- Facts on the words of a line.
-- For `cut_words`.
-- By induction on the line: what comes before the first space is the first word.
use Rattle.std.proofs.Common.{◌≡◌, ℕ, ◌+◌, ◌<◌, ◌≤◌, ◌==◌, false, List, [], ◌∷◌, ◌++◌, length, refl}
use Rattle.std.proofs.Common.{arith, take, ap, ◌∙◌, sym, append_assoc, Bor, length-append}
use Rattle.std.proofs.lemmas.List.{take_all, length-map, map-append}
use Rattle.std.proofs.Math.Seq.{take-append_seam}
use Rattle.std.proofs.lemmas.Bool.Decides.{nat_tests}
use Rattle.std.proofs.lemmas.List.Splits.{slice_split_at, slice_split_none}
use Rattle.trdp_text.specs.Splits.{Lacks, IsSplit}
use Rattle.trdp_text.specs.Words.{words_of}
use Rattle.trdp_text.specs.WordsLeft.{words_at}

-- what comes before the first space is the first word
split_word : (text word behind : List ℕ) → IsSplit 32 text word behind
    → words_of text ≡ word ∷ words_of behind
unfolding words_of
split_word text word behind split =
    rw split.whole (slice_split_at (λ byte. byte == 32) word 32 behind split.bare refl)

-- a text without a space is one word
last_word : (text : List ℕ) → Lacks 32 text → words_of text ≡ text ∷ []
unfolding words_of
last_word text none = slice_split_none (λ byte. byte == 32) text none

-- one more word
words_more : (words words_then : List (Bor (List ℕ))) (word : Bor (List ℕ))
    → words_then ≡ words ++ word ∷ [] → words_at words_then ≡ words_at words ++ word.now ∷ []
words_more words words_then word more = ap words_at more ∙ map-append _ words (word ∷ [])

-- the word before a space is cut
pub more_cut : (n : ℕ) (words words_then : List (Bor (List ℕ))) (word : Bor (List ℕ))
    (rest behind : List ℕ) (all : List (List ℕ)) → words_then ≡ words ++ word ∷ []
    → IsSplit 32 rest word.now behind → take n (words_at words ++ words_of rest) ≡ all
    → take n (words_at words_then ++ words_of behind) ≡ all
more_cut n words words_then word rest behind all more split before =
    ap (take n) (ap (λ l. l ++ words_of behind) (words_more words words_then word more)
    ∙ append_assoc (words_at words) (word.now ∷ []) (words_of behind)
    ∙ ap (λ l. words_at words ++ l) (sym (split_word rest word.now behind split)))
    ∙ before

-- the word before the end is cut
pub last_cut : (n : ℕ) (words words_then : List (Bor (List ℕ))) (rest : Bor (List ℕ))
    (all : List (List ℕ)) → words_then ≡ words ++ rest ∷ [] → Lacks 32 rest.now
    → length words ≤ n → (length words == n) ≡ false
    → take n (words_at words ++ words_of rest.now) ≡ all → words_at words_then ≡ all
last_cut n words words_then rest all more none within other before =
    let below : length words < n = grind (arith, nat_tests, within, other) in
    let one : length words_then ≡ length words + 1 =
    ap length more ∙ length-append words (rest ∷ []) in
    let len : length (words_at words_then) ≤ n =
    omega (arith, length-map words_then (λ (w : Bor (List ℕ)). w.now), one, below) in
    sym (take_all n (words_at words_then) len)
    ∙ ap (take n) (words_more words words_then rest more
    ∙ ap (λ l. words_at words ++ l) (sym (last_word rest.now none)))
    ∙ before

-- there is no room for more words
pub full_cut : (n : ℕ) (words : List (Bor (List ℕ))) (rest : List ℕ) (all : List (List ℕ))
    → length words ≡ n → take n (words_at words ++ words_of rest) ≡ all → words_at words ≡ all
full_cut n words rest all full before =
    sym (take-append_seam (words_at words) (words_of rest))
    ∙ ap (λ k. take k (words_at words ++ words_of rest))
    (length-map words (λ (w : Bor (List ℕ)). w.now) ∙ full)
    ∙ before
