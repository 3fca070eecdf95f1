use Rattle.trdp_fcs.proofs.DamageLemmas.{one_byte_changes_check}
use Rattle.trdp_fcs.proofs.laws.one_byte_changes_the_check.Goals as goal

pub returns : goal.returns
returns c = one_byte_changes_check
