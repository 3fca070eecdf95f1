use Rattle.trdp_md.proofs.ConfirmLemmas.{closed-done, last-done, fired-done}
use Rattle.trdp_md.proofs.laws.caller_is_done_with_all.Goals as goal

pub returns-clause-closed : goal.returns-clause-closed
returns-clause-closed c = closed-done

pub returns-clause-last : goal.returns-clause-last
returns-clause-last c = last-done

pub returns-clause-fired : goal.returns-clause-fired
returns-clause-fired c = fired-done
