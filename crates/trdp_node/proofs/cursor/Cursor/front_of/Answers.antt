use Rattle.trdp_node.proofs.ReadLemmas.{none_passed}
use Rattle.trdp_node.proofs.cursor.Cursor.front_of.Goals as goal

pub returns-clause-reads : goal.returns-clause-reads
returns-clause-reads c =
    none_passed c.args.outbox.now.records c.is_rising.result c.is_rising.ensures
