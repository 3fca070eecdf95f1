use Rattle.trdp_timers.proofs.FewerLemmas.{none_of_unset, none_after_first}
use Rattle.trdp_timers.proofs.laws.first_is_due_first.Goals as goal

pub returns-clause-unset : goal.returns-clause-unset
returns-clause-unset c = none_of_unset

pub returns-clause-first : goal.returns-clause-first
returns-clause-first c = none_after_first
