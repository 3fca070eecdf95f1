use Rattle.std.proofs.Common.{arith, rules}
use Rattle.trdp_marshal.specs.Reading.{number_at}
use Rattle.trdp_marshal.proofs.NumberLemmas.{number_fits}
use Rattle.trdp_marshal.proofs.number.number.Goals as goal

pub returns-clause-value : goal.returns-clause-value
unfolding number_at
returns-clause-value c = search rules

pub returns-clause-bound : goal.returns-clause-bound
unfolding number_at
returns-clause-bound c = grind (arith, number_fits)
