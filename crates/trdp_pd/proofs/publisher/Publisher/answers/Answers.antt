use Rattle.std.proofs.Common.{rules}
use Rattle.trdp_pd.specs.Publishers.{is_answered}
use Rattle.trdp_pd.proofs.publisher.Publisher.answers.Goals as goal

pub returns-then-is_asked : goal.returns-then-is_asked
unfolding is_answered
returns-then-is_asked c = search rules
