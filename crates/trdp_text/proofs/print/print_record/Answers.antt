use Rattle.std.proofs.Common.{arith}
use Rattle.std.proofs.lemmas.Grind.{common_steps}
use Rattle.trdp_text.specs.RecordText.{text_of_record}
use Rattle.trdp_text.proofs.print.print_record.Goals as goal

pub returns-clause-ok : goal.returns-clause-ok
unfolding text_of_record
returns-clause-ok c = grind (arith, common_steps)
