use Rattle.trdp_lines.proofs.LineLemmas.{whole_again, all_unended, rest_ends}
use Rattle.trdp_lines.proofs.laws.bytes_are_lines_and_rest.Goals as goal

pub returns-clause-bytes : goal.returns-clause-bytes
returns-clause-bytes c = whole_again

pub returns-clause-lines : goal.returns-clause-lines
returns-clause-lines c = all_unended

pub returns-clause-rest : goal.returns-clause-rest
returns-clause-rest c = rest_ends
