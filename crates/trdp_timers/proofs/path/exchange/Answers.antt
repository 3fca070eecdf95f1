use Rattle.std.proofs.Common.{rules}
use Rattle.trdp_timers.proofs.path.exchange.Goals as goal

pub returns-clause-placed : goal.returns-clause-placed
returns-clause-placed c = λ orders placed. record {
  within = λ i h. search rules;
  listed = λ i h. search rules;
  present = λ i h. search rules;
  found = λ k h. search rules;
  named = λ k h. search rules;
}
