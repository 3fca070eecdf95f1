use Rattle.trdp_md.proofs.CallerLemmas.{called-later}
use Rattle.trdp_md.proofs.ReplierLemmas.{asked_by-later, queried-later}
use Rattle.trdp_md.proofs.laws.session_ends_later.Goals as goal

pub returns-clause-caller : goal.returns-clause-caller
returns-clause-caller c = called-later

pub returns-clause-replier : goal.returns-clause-replier
returns-clause-replier c = asked_by-later

pub returns-clause-query : goal.returns-clause-query
returns-clause-query c = queried-later
