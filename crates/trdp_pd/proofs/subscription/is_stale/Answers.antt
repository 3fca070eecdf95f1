use Rattle.std.proofs.Common.{rules}
use Rattle.trdp_pd.specs.Subscriptions.{is_stale}
use Rattle.trdp_pd.proofs.subscription.is_stale.Goals as goal

pub returns-then-eq-2 : goal.returns-then-eq-2
unfolding is_stale
returns-then-eq-2 c = search rules
