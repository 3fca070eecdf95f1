use Rattle.std.proofs.Common.{rules}
use Rattle.trdp_pd.proofs.publisher.Publisher.new.Goals as goal

pub returns : goal.returns
returns c = search rules
