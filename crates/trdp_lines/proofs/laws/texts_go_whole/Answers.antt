use Rattle.trdp_lines.proofs.OutgoingLemmas.{goes_whole}
use Rattle.trdp_lines.proofs.laws.texts_go_whole.Goals as goal

pub returns : goal.returns
returns c = goes_whole
