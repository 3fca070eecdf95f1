use Rattle.std.proofs.Common.{rules}
use Rattle.trdp_text.specs.Words.{last_number}
use Rattle.trdp_text.proofs.words.Words.last_u8.Goals as goal

pub returns-then-are_over : goal.returns-then-are_over
unfolding last_number
returns-then-are_over c = search rules
