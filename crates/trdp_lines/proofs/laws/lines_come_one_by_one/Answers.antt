use Rattle.trdp_lines.proofs.LineLemmas.{first_split, first_unended, first_comes, none_comes}
use Rattle.trdp_lines.proofs.laws.lines_come_one_by_one.Goals as goal

pub returns-clause-split : goal.returns-clause-split
returns-clause-split c = first_split

pub returns-clause-unended : goal.returns-clause-unended
returns-clause-unended c = first_unended

pub returns-clause-first : goal.returns-clause-first
returns-clause-first c = first_comes

pub returns-clause-none : goal.returns-clause-none
returns-clause-none c = none_comes
