use Rattle.trdp_node.proofs.ReadLemmas.{none_passed}
use Rattle.std.proofs.Common.{false}
use Rattle.trdp_node.proofs.cursor.Cursor.start.Goals as goal

pub returns-clause-reads : goal.returns-clause-reads
returns-clause-reads c = λ records. none_passed records false (λ is. absurd (cc))
