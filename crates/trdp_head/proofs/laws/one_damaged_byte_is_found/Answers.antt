use Rattle.trdp_head.proofs.DamageLemmas.{pd_found, md_found}
use Rattle.trdp_head.proofs.laws.one_damaged_byte_is_found.Goals as goal

pub returns-clause-pd : goal.returns-clause-pd
returns-clause-pd c = pd_found

pub returns-clause-md : goal.returns-clause-md
returns-clause-md c = md_found
