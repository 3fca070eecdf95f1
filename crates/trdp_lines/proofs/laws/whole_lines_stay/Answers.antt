use Rattle.trdp_lines.proofs.LineLemmas.{lines_stay}
use Rattle.trdp_lines.proofs.laws.whole_lines_stay.Goals as goal

pub returns : goal.returns
returns c = lines_stay
