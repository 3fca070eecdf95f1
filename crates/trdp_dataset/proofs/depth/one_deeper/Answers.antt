use Rattle.std.proofs.Common.{suc, rules}
use Rattle.trdp_dataset.specs.Depths.{is_within}
use Rattle.trdp_dataset.proofs.RowLemmas.{row_turn}
use Rattle.trdp_dataset.proofs.depth.one_deeper.Goals as goal

pub loop-i-preserved : goal.loop-i-preserved
loop-i-preserved c = record {
  len = search rules;
  row = λ depth h. row_turn (is_within c.args.datasets.now (suc depth))
      c.args.datasets.now c.loop-i.i c.id_at.result
      c.is_within.result c.loop-i.next.items c.push.new.self.items c.id_at.ensures.value
      (c.is_within.ensures depth h) (c.loop-i.invariant.row depth h) c.in_ok-push.ensures.items;
}
