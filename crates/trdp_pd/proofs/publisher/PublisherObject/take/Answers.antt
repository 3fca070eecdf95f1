use Rattle.std.proofs.Common.{rules}
use Rattle.trdp_pd.specs.Subscriptions.{is_accepted_value}
use Rattle.trdp_pd.proofs.publisher.PublisherObject.take.Goals as goal

pub returns-then-answers-clause-state : goal.returns-then-answers-clause-state
unfolding is_accepted_value
returns-then-answers-clause-state c = search rules
