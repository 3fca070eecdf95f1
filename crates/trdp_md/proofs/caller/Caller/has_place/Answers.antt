use Rattle.std.proofs.Common.{rules}
use Rattle.trdp_md.specs.Callers.{has_place}
use Rattle.trdp_md.proofs.caller.Caller.has_place.Goals as goal

pub returns-then-expected-eq0-clause-value : goal.returns-then-expected-eq0-clause-value
unfolding has_place
returns-then-expected-eq0-clause-value c = search rules

pub returns-then-expected-eq0-clause-room : goal.returns-then-expected-eq0-clause-room
unfolding has_place
returns-then-expected-eq0-clause-room c = search rules

pub returns-else-expected-eq0-clause-value : goal.returns-else-expected-eq0-clause-value
unfolding has_place
returns-else-expected-eq0-clause-value c = search rules

pub returns-else-expected-eq0-clause-room : goal.returns-else-expected-eq0-clause-room
unfolding has_place
returns-else-expected-eq0-clause-room c = search rules
