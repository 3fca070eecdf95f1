use Rattle.std.proofs.Common.{rules}
use Rattle.trdp_controls.proofs.path_calls.take_line.Goals as goal

pub returns-clause-takes : goal.returns-clause-takes
returns-clause-takes g c = rw (c.in-Some.is, c.has_heard-heard.ensures.forgotten) (record {
  taken = c.take-taken.result;
  next = search rules;
  asked = search rules;
  decided = search rules;
  hears = search rules;
  forgotten = search rules;
  answer = search rules;
  fault = search rules;
})
