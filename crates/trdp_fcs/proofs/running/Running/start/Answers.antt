use Rattle.trdp_fcs.proofs.PieceLemmas.{check_of_none}
use Rattle.trdp_fcs.proofs.running.Running.start.Goals as goal

pub returns : goal.returns
returns c = check_of_none
