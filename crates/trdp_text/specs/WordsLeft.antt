-- What a reader of words has still to read.
use Rattle.std.specs.Prelude.{ℕ, List, map}
use Rattle.std.specs.Borrow.{Bor}
use Rattle.trdp_text.specs.declared.words.Words.{Words}

-- the words that these point to
abbrev pub words_at : List (Bor (List ℕ)) → List (List ℕ)
words_at words = map (λ word. word.now) words

-- the words from the first that is left to the last
abbrev pub words_left : Words → List (List ℕ)
words_left words = words_at words.left.now
