use Rattle.trdp_pd.proofs.SubscriptionLemmas.{terms-taking}
use Rattle.trdp_pd.proofs.laws.subscription_keeps.Goals as goal

pub returns-clause-taken : goal.returns-clause-taken
returns-clause-taken c = terms-taking
