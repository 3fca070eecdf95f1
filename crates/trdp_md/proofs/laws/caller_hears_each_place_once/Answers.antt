use Rattle.trdp_md.proofs.CallerLemmas.{once, counts, remembers}
use Rattle.trdp_md.proofs.laws.caller_hears_each_place_once.Goals as goal

pub returns-clause-once : goal.returns-clause-once
returns-clause-once c = once

pub returns-clause-counted : goal.returns-clause-counted
returns-clause-counted c = counts

pub returns-clause-taken : goal.returns-clause-taken
returns-clause-taken c = remembers
