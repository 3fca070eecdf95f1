use Rattle.std.proofs.Common.{rules}
use Rattle.trdp_calls.proofs.callers.confirm_refusal.Goals as goal

pub returns-then-status-lt0 : goal.returns-then-status-lt0
returns-then-status-lt0 c = search rules
