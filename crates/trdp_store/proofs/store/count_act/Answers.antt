use Rattle.std.proofs.Common.{rules}
use Rattle.trdp_store.proofs.store.count_act.Goals as goal

pub returns-in-Ended-clause-all_comparisons : goal.returns-in-Ended-clause-all_comparisons
returns-in-Ended-clause-all_comparisons c = search rules

pub returns-in_default-left-clause-all_comparisons :
    goal.returns-in_default-left-clause-all_comparisons
returns-in_default-left-clause-all_comparisons c = search rules
