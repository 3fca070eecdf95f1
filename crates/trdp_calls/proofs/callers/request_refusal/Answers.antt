use Rattle.std.proofs.Common.{rules}
use Rattle.trdp_calls.proofs.callers.request_refusal.Goals as goal

pub returns-then-terms-gt-RETRIES_MAX-clause-value :
    goal.returns-then-terms-gt-RETRIES_MAX-clause-value
returns-then-terms-gt-RETRIES_MAX-clause-value c = search rules

pub returns-clause-value : goal.returns-clause-value
returns-clause-value c = search rules
