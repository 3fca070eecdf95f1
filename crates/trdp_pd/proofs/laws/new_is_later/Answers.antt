use Rattle.trdp_pd.specs.SubscriptionLaws.{deadline_from-later}
use Rattle.trdp_pd.proofs.MomentLemmas.{published-later}
use Rattle.trdp_pd.proofs.laws.new_is_later.Goals as goal

pub returns-clause-publisher : goal.returns-clause-publisher
returns-clause-publisher c = published-later

pub returns-clause-subscription : goal.returns-clause-subscription
returns-clause-subscription c = λ terms zero_size now. deadline_from-later terms.supervision now
