use Rattle.std.proofs.Common.{◌≡◌, None, rules}
use Rattle.trdp_text.specs.PortLines.{question_of}
use Rattle.trdp_text.specs.Words.{first_word}
use Rattle.trdp_text.specs.WordsLeft.{words_left}
use Rattle.trdp_text.proofs.ReadLemmas.OperatorLines.{never_wants, ordered_badly}
use Rattle.trdp_text.proofs.port.read_said.Goals as goal

pub returns-in-Err-clause-fault : goal.returns-in-Err-clause-fault
returns-in-Err-clause-fault c =
    let none : question_of (first_word (words_left c.args.words)) ≡ None = search rules in
    ordered_badly (words_left c.args.words) c.in-Err.fault none c.in-Err.ensures

pub returns-in-Err-clause-memory : goal.returns-in-Err-clause-memory
returns-in-Err-clause-memory c =
    never_wants (words_left c.args.words) c.in-Err.fault c.in-Err.ensures
