use Rattle.std.proofs.Common.{rules}
use Rattle.trdp_pd.proofs.subscription.SubscriptionObject.fire.Goals as goal

pub returns-clause-state : goal.returns-clause-state
returns-clause-state c = search rules
