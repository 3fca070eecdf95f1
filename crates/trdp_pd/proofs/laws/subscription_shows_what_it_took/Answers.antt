use Rattle.trdp_pd.proofs.SubscriptionLemmas.{HasTaken-taking}
use Rattle.trdp_pd.proofs.laws.subscription_shows_what_it_took.Goals as goal

pub returns-clause-taken : goal.returns-clause-taken
returns-clause-taken c = HasTaken-taking
