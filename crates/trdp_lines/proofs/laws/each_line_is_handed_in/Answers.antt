use Rattle.std.proofs.Common.{[]}
use Rattle.trdp_lines.proofs.IntakeRunLemmas.{each_comes}
use Rattle.trdp_lines.proofs.laws.each_line_is_handed_in.Goals as goal

pub returns : goal.returns
returns c = λ steps. each_comes steps []
