use Rattle.std.proofs.Common.{◌≡◌, ◌++◌, length, take}
use Rattle.trdp_text.specs.Words.{words_of}
use Rattle.trdp_text.specs.WordsLeft.{words_at}
use Rattle.trdp_text.proofs.words.cut_words.Given as goal

-- the words so far and those of the rest are all
abbrev pub invariant-loop-rest : goal.invariant-loop-rest
invariant-loop-rest l = take 15 (words_at l.words.items ++ words_of l.rest)
    ≡ take 15 (words_at l.fn.words.items ++ words_of l.fn.text)

abbrev pub decreases-loop-rest : goal.decreases-loop-rest
decreases-loop-rest l = length l.rest
