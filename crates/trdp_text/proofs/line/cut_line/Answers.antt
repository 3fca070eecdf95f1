use Rattle.std.proofs.Common.{rules}
use Rattle.trdp_text.specs.Lines.{line_among}
use Rattle.trdp_text.proofs.line.cut_line.Goals as goal

pub returns-then-is_skipped-clause-fault : goal.returns-then-is_skipped-clause-fault
unfolding line_among
returns-then-is_skipped-clause-fault c = search rules

pub returns-then-text-gt-LINE_MAX-clause-fault : goal.returns-then-text-gt-LINE_MAX-clause-fault
unfolding line_among
returns-then-text-gt-LINE_MAX-clause-fault c = search rules
