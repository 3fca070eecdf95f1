use Rattle.std.proofs.Common.{rules}
use Rattle.trdp_memory.proofs.offers.OffersIterator.next.Goals as goal

pub returns-clause-steps : goal.returns-clause-steps
returns-clause-steps c = search rules
