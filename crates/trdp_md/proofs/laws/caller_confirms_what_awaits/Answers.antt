use Rattle.trdp_md.proofs.ConfirmLemmas.{HasAwaiting-awaits, awaits-confirming}
use Rattle.trdp_md.proofs.laws.caller_confirms_what_awaits.Goals as goal

pub returns-clause-found : goal.returns-clause-found
returns-clause-found c = HasAwaiting-awaits

pub returns-clause-ended : goal.returns-clause-ended
returns-clause-ended c = awaits-confirming
